-- Taking a number out of those that wait.
use Rattle.std.specs.Prelude.{◌≡◌, ℕ, ◌+◌, ◌⊎◌, List, [], ◌∷◌, ◌++◌, map, length, ◌==◌, ◌≢◌, refl}
use Rattle.std.proofs.Common.{sym, ◌∙◌, ap, subst, inl, inr, arith}
use Rattle.std.proofs.lemmas.Bool.{cases_Bool, cond-true, cond-false, eqb-true, eqb-false}
use Rattle.planning.specs.Lists.{In}
use Rattle.uniform.specs.Runs.{without}

-- by whether the first is the number
head : (n m : ℕ) (ms : List ℕ) (P : List ℕ → Type 0) → (m ≡ n → P ms) → ((m ≢ n) → P (m ∷ without n ms)) → P (without n (m ∷ ms))
head n m ms P f g = elim (cases_Bool (m == n)) [
  | inl e ↦ subst P (sym (cond-true (m == n) ms (m ∷ without n ms) e)) (f (eqb-true m n e))
  | inr d ↦ subst P (sym (cond-false (m == n) ms (m ∷ without n ms) d)) (g (eqb-false m n d))
]

pub in_without : (n k : ℕ) (ms : List ℕ) → In k (without n ms) → In k ms
in_without n k [] = λ h. h
in_without n k (m ∷ ms) =
    head n m ms (λ z. In k z → In k (m ∷ ms)) (λ e h. inr h)
    (λ d h. elim h [ inl e ↦ inl e | inr i ↦ inr (in_without n k ms i) ])

pub without_or : (n k : ℕ) (ms : List ℕ) → In k ms → (k ≡ n) ⊎ In k (without n ms)
without_or n k [] = λ h. absurd h
without_or n k (m ∷ ms) =
    head n m ms (λ z. In k (m ∷ ms) → (k ≡ n) ⊎ In k z) (λ e h. elim h [ inl q ↦ inl (q ∙ e) | inr i ↦ inr i ])
    (λ d h. elim h [ inl q ↦ inr (inl q) | inr i ↦ elim (without_or n k ms i) [ inl q ↦ inl q | inr j ↦ inr (inr j) ] ])

pub length_without : (n : ℕ) (ms : List ℕ) → In n ms → length (without n ms) + 1 ≡ length ms
length_without n [] = λ h. absurd h
length_without n (m ∷ ms) =
    head n m ms (λ z. In n (m ∷ ms) → length z + 1 ≡ length (m ∷ ms)) (λ e h. omega arith)
    (λ d h. elim h [ inl q ↦ absurd (d (sym q)) | inr i ↦ (let l = length_without n ms i in omega arith) ])

pub map_push : {X Y : Type 0} (f : X → Y) (xs : List X) (x : X) → map f (xs ++ x ∷ []) ≡ map f xs ++ f x ∷ []
map_push f [] x = refl
map_push f (y ∷ xs) x = ap (λ z. f y ∷ z) (map_push f xs x)

pub in_map : {X Y : Type 0} (f : X → Y) (xs : List X) (y : Y) → In y (map f xs) → (x : X) × In x xs × (f x ≡ y)
in_map f [] y h = absurd h
in_map f (x ∷ xs) y (inl e) = (x, inl refl, sym e)
in_map f (x ∷ xs) y (inr h) = let r = in_map f xs y h in (r.0, inr r.1, r.2)
