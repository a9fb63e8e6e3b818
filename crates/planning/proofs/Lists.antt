-- Lists read by place, membership, and how many distinct numbers there are below a bound.
use Rattle.std.proofs.Common.{◌≡◌, ℕ, zero, suc, ◌+◌, ◌<◌, ◌≤◌, Bool, true, false, eqb, ◌⊎◌, List, [], ◌∷◌, ◌++◌, length, Some, None, Option, sym, refl, ap, ◌∙◌, inl, inr, arith}
use Rattle.std.specs.List.{list_any, AllByRecursion, IsDistinct}
use Rattle.std.proofs.lemmas.Bool.{cases_Bool, cases_lt, both_ways, or_cases, eqb-true}
use Rattle.std.proofs.lemmas.Map.Steps.{length-le_from_distinct_below}
use Rattle.rows.specs.Tasks.{nth}
use Rattle.planning.specs.Lists.{In, Distinct}

pub some_inj : {X : Type 0} (a b : X) → ◌≡◌ {A = Option X} (Some a) (Some b) → a ≡ b
some_inj a b e = cc

pub none_some : {X Y : Type 0} (a : X) → ◌≡◌ {A = Option X} None (Some a) → Y
none_some a e = absurd (let z : ◌≡◌ {A = ℕ} 0 1 = cc in omega arith)

pub nth_none : {X : Type 0} (xs : List X) (n : ℕ) → length xs ≤ n → nth xs n ≡ None
nth_none [] n h = refl
nth_none (x ∷ xs) zero h = absurd (omega arith)
nth_none (x ∷ xs) (suc n) h = nth_none xs n (omega arith)

-- what stands at a place is below the length
pub nth_below : {X : Type 0} (xs : List X) (n : ℕ) (x : X) → nth xs n ≡ Some x → n < length xs
nth_below xs n x e = elim (cases_lt n (length xs)) [ inl l ↦ l | inr ge ↦ none_some x (sym (nth_none xs n ge) ∙ e) ]

pub nth_some : {X : Type 0} (xs : List X) (n : ℕ) → n < length xs → (x : X) × (nth xs n ≡ Some x)
nth_some [] n h = absurd (omega arith)
nth_some (x ∷ xs) zero h = (x, refl)
nth_some (x ∷ xs) (suc n) h = nth_some xs n (omega arith)

pub nth_in : {X : Type 0} (xs : List X) (n : ℕ) (x : X) → nth xs n ≡ Some x → In x xs
nth_in [] n x e = none_some x e
nth_in (y ∷ xs) zero x e = inl (sym (some_inj y x e))
nth_in (y ∷ xs) (suc n) x e = inr (nth_in xs n x e)

pub in_nth : {X : Type 0} (xs : List X) (x : X) → In x xs → (n : ℕ) × (nth xs n ≡ Some x)
in_nth [] x m = absurd m
in_nth (y ∷ xs) x (inl e) = (0, ap (λ z. Some z) (sym e))
in_nth (y ∷ xs) x (inr m) = let h = in_nth xs x m in (suc h.0, h.1)

-- what stands at a place still does once the list is longer
pub nth_left : {X : Type 0} (xs ys : List X) (n : ℕ) → n < length xs → nth (xs ++ ys) n ≡ nth xs n
nth_left [] ys n h = absurd (omega arith)
nth_left (x ∷ xs) ys zero h = refl
nth_left (x ∷ xs) ys (suc n) h = nth_left xs ys n (omega arith)

pub nth_push : {X : Type 0} (xs : List X) (x : X) (n : ℕ) → n ≡ length xs → nth (xs ++ x ∷ []) n ≡ Some x
nth_push [] x zero e = refl
nth_push [] x (suc n) e = absurd (omega arith)
nth_push (y ∷ xs) x zero e = absurd (omega arith)
nth_push (y ∷ xs) x (suc n) e = nth_push xs x n (omega arith)

pub in_push : {X : Type 0} (x y : X) (xs : List X) → In x (xs ++ y ∷ []) → (x ≡ y) ⊎ In x xs
in_push x y [] (inl e) = inl e
in_push x y [] (inr m) = absurd m
in_push x y (z ∷ xs) (inl e) = inr (inl e)
in_push x y (z ∷ xs) (inr m) = elim (in_push x y xs m) [ inl e ↦ inl e | inr k ↦ inr (inr k) ]

pub in_left : {X : Type 0} (x y : X) (xs : List X) → In x xs → In x (xs ++ y ∷ [])
in_left x y [] m = absurd m
in_left x y (z ∷ xs) (inl e) = inl e
in_left x y (z ∷ xs) (inr m) = inr (in_left x y xs m)

pub in_last : {X : Type 0} (x : X) (xs : List X) → In x (xs ++ x ∷ [])
in_last x [] = inl refl
in_last x (y ∷ xs) = inr (in_last x xs)

pub distinct_push : {X : Type 0} (y : X) (xs : List X) → Distinct xs → (In y xs → ⊥) → Distinct (xs ++ y ∷ [])
distinct_push y [] d n = (λ m. m, tt)
distinct_push y (x ∷ xs) d n =
    (λ m. elim (in_push x y xs m) [ inl e ↦ n (inl (sym e)) | inr k ↦ d.0 k ], distinct_push y xs d.1 (λ m. n (inr m)))

among : (y : ℕ) (xs : List ℕ) → list_any (eqb y) xs ≡ true → In y xs
among y [] h = absurd (both_ways false refl h)
among y (x ∷ xs) h = elim (or_cases (eqb y x) (list_any (eqb y) xs) h) [ inl e ↦ inl (eqb-true y x e) | inr k ↦ inr (among y xs k) ]

others : (x : ℕ) (xs : List ℕ) → (In x xs → ⊥) → AllByRecursion (λ y. eqb x y ≡ false) xs
others x [] f = tt
others x (y ∷ xs) f = (elim (cases_Bool (eqb x y)) [ inl e ↦ absurd (f (inl (eqb-true x y e))) | inr n ↦ n ], others x xs (λ m. f (inr m)))

distinct_by : (xs : List ℕ) → Distinct xs → IsDistinct eqb xs
unfolding IsDistinct
distinct_by [] d = tt
distinct_by (x ∷ xs) d = (others x xs d.0, distinct_by xs d.1)

-- distinct numbers below a bound are no more than the bound
pub numbers_few : (p : ℕ) (xs : List ℕ) → Distinct xs → ((y : ℕ) → In y xs → y < p) → length xs ≤ p
numbers_few p xs d f = length-le_from_distinct_below xs p (distinct_by xs d) (λ y h. f y (among y xs h))
