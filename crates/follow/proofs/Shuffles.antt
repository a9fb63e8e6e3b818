-- Lists of numbers with the same elements: one of them taken out of both.
use Rattle.std.proofs.Common.{◌≡◌, ℕ, ◌+◌, ◌<◌, false, cond, eqb, List, [], ◌∷◌, ◌++◌, map, sum_by, sym, refl, ap, ◌∙◌, subst, inl, inr, arith}
use Rattle.std.specs.List.Sorted.{IsPermutation}
use Rattle.std.proofs.lemmas.List.Sums.{sum_by-cons}
use Rattle.std.proofs.lemmas.Bool.{cases_Bool, cond-true, cond-false, eqb-true, eqb-false, eq-eqb}
use Rattle.std.proofs.lemmas.List.{nil_from_length}
use Rattle.std.proofs.lemmas.List.Sorted.{IsPermutation-refl, IsPermutation-sym, IsPermutation-trans, IsPermutation-cons, IsPermutation-swap, length_permutation, sum_by-IsPermutation, IsPermutation-to_front}
use Rattle.planning.specs.Lists.{In}
use Rattle.uniform.specs.Runs.{without}

-- 1 for the number, 0 for others
abbrev one : ℕ → ℕ → ℕ
one n x = cond (eqb x n) 1 0

-- how often the number stands in the list
abbrev often : ℕ → List ℕ → ℕ
often n xs = sum_by (one n) xs

often_cons : (n x : ℕ) (xs : List ℕ) → often n (x ∷ xs) ≡ one n x + often n xs
often_cons n x xs = sum_by-cons (one n) x xs

one_same : (n x : ℕ) → x ≡ n → one n x ≡ 1
one_same n x e = cond-true (eqb x n) 1 0 (eq-eqb x n e)

one_other : (n x : ℕ) → eqb x n ≡ false → one n x ≡ 0
one_other n x e = cond-false (eqb x n) 1 0 e

often_in : (n : ℕ) (xs : List ℕ) → 0 < often n xs → In n xs
often_in n [] h = absurd (omega arith)
often_in n (x ∷ xs) h = elim (cases_Bool (eqb x n)) [
  | inl e ↦ inl (sym (eqb-true x n e))
  | inr ne ↦ inr (often_in n xs (omega (arith, often_cons n x xs, one_other n x ne)))
]

-- two in each other's place
turn : {X : Type 0} (x y : X) (xs : List X) → IsPermutation (x ∷ y ∷ xs) (y ∷ x ∷ xs)
turn x y xs = IsPermutation-swap (x ∷ y ∷ xs) (y ∷ x ∷ xs) 0 1 (omega arith) (omega arith) refl

-- a number that stands in a list, taken out and put first
fronted : (n : ℕ) (xs : List ℕ) → In n xs → IsPermutation xs (n ∷ without n xs)
fronted n [] i = absurd i
fronted n (x ∷ xs) i = elim (cases_Bool (eqb x n)) [
  | inl e ↦ subst (λ z. IsPermutation (x ∷ xs) (n ∷ z)) (sym (cond-true (eqb x n) xs (x ∷ without n xs) e)) (subst (λ z. IsPermutation (x ∷ xs) (z ∷ xs)) (eqb-true x n e) (IsPermutation-refl (x ∷ xs)))
  | inr ne ↦ subst (λ z. IsPermutation (x ∷ xs) (n ∷ z)) (sym (cond-false (eqb x n) xs (x ∷ without n xs) ne))
      (IsPermutation-trans (x ∷ xs) (x ∷ n ∷ without n xs) (n ∷ x ∷ without n xs)
      (IsPermutation-cons x xs (n ∷ without n xs) (fronted n xs (rest i (eqb-false x n ne)))) (turn x n (without n xs)))
]
  where
    rest : In n (x ∷ xs) → (x ≡ n → ⊥) → In n xs
    rest (inl e) ne = absurd (ne (sym e))
    rest (inr h) ne = h

-- as often each
same_often : (xs ys : List ℕ) → ((n : ℕ) → often n ys ≡ often n xs) → IsPermutation xs ys
same_often [] [] h = IsPermutation-refl []
same_often [] (y ∷ ys) h = absurd (omega (arith, h y, often_cons y y ys, one_same y y refl))
same_often (x ∷ xs) ys h =
    let i : In x ys = often_in x ys (omega (arith, h x, often_cons x x xs, one_same x x refl)) in
    let f = fronted x ys i in
    let zs = without x ys in
    let r : IsPermutation xs zs = same_often xs zs (λ n. omega (arith, h n, often_cons n x xs, often_cons n x zs, sum_by-IsPermutation (one n) ys (x ∷ zs) f)) in
    IsPermutation-trans (x ∷ xs) (x ∷ zs) ys (IsPermutation-cons x xs zs r) (IsPermutation-sym ys (x ∷ zs) f)

-- what is left once the number is taken out
pub shuffled_without : (n : ℕ) (xs ys : List ℕ) → IsPermutation (n ∷ xs) ys → IsPermutation xs (without n ys)
shuffled_without n xs ys s =
    let c : (m : ℕ) → often m ys ≡ often m (n ∷ xs) = λ m. sum_by-IsPermutation (one m) (n ∷ xs) ys s in
    let i : In n ys = often_in n ys (omega (arith, c n, often_cons n n xs, one_same n n refl)) in
    let f = fronted n ys i in
    let zs = without n ys in
    same_often xs zs (λ m. omega (arith, c m, often_cons m n xs, often_cons m n zs, sum_by-IsPermutation (one m) ys (n ∷ zs) f))

pub shuffled_none : {X : Type 0} (xs : List X) → IsPermutation [] xs → xs ≡ []
shuffled_none xs s = nil_from_length xs (length_permutation [] xs s)

-- put last instead of first
pub shuffled_push : {X : Type 0} (x : X) (xs ys : List X) → IsPermutation xs ys → IsPermutation (x ∷ xs) (ys ++ x ∷ [])
shuffled_push x xs ys s = IsPermutation-trans (x ∷ xs) (x ∷ ys) (ys ++ x ∷ []) (IsPermutation-cons x xs ys s) (IsPermutation-sym (ys ++ x ∷ []) (x ∷ ys) (IsPermutation-to_front ys x))

in_often : (n : ℕ) (xs : List ℕ) → In n xs → 0 < often n xs
in_often n [] i = absurd i
in_often n (x ∷ xs) (inl e) = omega (arith, often_cons n x xs, one_same n x (sym e))
in_often n (x ∷ xs) (inr i) = omega (arith, often_cons n x xs, in_often n xs i)

pub in_shuffled : (n : ℕ) (xs ys : List ℕ) → IsPermutation xs ys → In n xs → In n ys
in_shuffled n xs ys s i = often_in n ys (omega (arith, in_often n xs i, sum_by-IsPermutation (one n) xs ys s))

sum_by_map : {X : Type 0} (g : ℕ → ℕ) (f : X → ℕ) (xs : List X) → sum_by g (map f xs) ≡ sum_by (λ x. g (f x)) xs
sum_by_map g f [] = refl
sum_by_map g f (x ∷ xs) = sum_by-cons g (f x) (map f xs) ∙ ap (λ z. g (f x) + z) (sum_by_map g f xs) ∙ sym (sum_by-cons (λ y. g (f y)) x xs)

pub shuffled_map : {X : Type 0} (f : X → ℕ) (xs ys : List X) → IsPermutation xs ys → IsPermutation (map f xs) (map f ys)
shuffled_map f xs ys s =
    same_often (map f xs) (map f ys) (λ n. sum_by_map (one n) f ys ∙ sum_by-IsPermutation (λ x. one n (f x)) xs ys s ∙ sym (sum_by_map (one n) f xs))
