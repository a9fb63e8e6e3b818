-- A test of the two bytes at each place: of the whole lists, and place by place; and what a row that fits is long.
use Rattle.std.proofs.Common.{◌≡◌, ℕ, zero, suc, ◌<◌, Bool, true, false, ◌&&◌, List, [], ◌∷◌, length, get_or, sym, refl, ap, arith}
use Rattle.std.specs.List.{list_all, zip}
use Rattle.std.proofs.lemmas.Bool.{and_parts, and_left, and_right, both_ways}
use Rattle.rows.specs.Rows.{both, fits_at, fits}

module _ (p : ℕ → ℕ → Bool) where
  pub both_length : (xs ys : List ℕ) → both p xs ys ≡ true → length xs ≡ length ys
  both_length [] [] h = refl
  both_length [] (b ∷ ys) h = absurd (both_ways false refl h)
  both_length (a ∷ xs) [] h = absurd (both_ways false refl h)
  both_length (a ∷ xs) (b ∷ ys) h = ap suc (both_length xs ys (and_parts (p a b) (both p xs ys) h).1)

  pub both_at : (xs ys : List ℕ) → both p xs ys ≡ true → (v : ℕ) → v < length xs → p (get_or xs v 0) (get_or ys v 0) ≡ true
  both_at [] ys h v k = absurd (omega arith)
  both_at (a ∷ xs) [] h v k = absurd (both_ways false refl h)
  both_at (a ∷ xs) (b ∷ ys) h zero k = (and_parts (p a b) (both p xs ys) h).0
  both_at (a ∷ xs) (b ∷ ys) h (suc v) k = both_at xs ys (and_parts (p a b) (both p xs ys) h).1 v (omega arith)

  pub both_from : (xs ys : List ℕ) → length xs ≡ length ys → ((v : ℕ) → v < length xs → p (get_or xs v 0) (get_or ys v 0) ≡ true) → both p xs ys ≡ true
  both_from [] [] e h = refl
  both_from [] (b ∷ ys) e h = absurd (omega arith)
  both_from (a ∷ xs) [] e h = absurd (omega arith)
  both_from (a ∷ xs) (b ∷ ys) e h =
      rw (h 0 (omega arith)) (both_from xs ys (omega arith) (λ v k. h (suc v) (omega arith)))

  pub both_not_length : (xs ys : List ℕ) → (length xs ≡ length ys → ⊥) → both p xs ys ≡ false
  both_not_length [] [] h = absurd (h refl)
  both_not_length [] (b ∷ ys) h = refl
  both_not_length (a ∷ xs) [] h = refl
  both_not_length (a ∷ xs) (b ∷ ys) h = and_right (p a b) (both p xs ys) (both_not_length xs ys (λ e. h (ap suc e)))

  pub both_not_at : (xs ys : List ℕ) (v : ℕ) → v < length xs → v < length ys → p (get_or xs v 0) (get_or ys v 0) ≡ false → both p xs ys ≡ false
  both_not_at [] ys v h k e = absurd (omega arith)
  both_not_at (a ∷ xs) [] v h k e = absurd (omega arith)
  both_not_at (a ∷ xs) (b ∷ ys) zero h k e = and_left (p a b) (both p xs ys) e
  both_not_at (a ∷ xs) (b ∷ ys) (suc v) h k e = and_right (p a b) (both p xs ys) (both_not_at xs ys v (omega arith) (omega arith) e)

  -- of lists that are equally long, it is a test of their pairs
  pub both_pairs : (xs ys : List ℕ) → length xs ≡ length ys → list_all (λ (q : ℕ × ℕ). p q.0 q.1) (zip xs ys) ≡ both p xs ys
  both_pairs [] [] e = refl
  both_pairs [] (b ∷ ys) e = absurd (omega arith)
  both_pairs (a ∷ xs) [] e = absurd (omega arith)
  both_pairs (a ∷ xs) (b ∷ ys) e = ap (λ t. p a b && t) (both_pairs xs ys (omega arith))

-- a row that fits a values table is as long as it
pub fits_length : (values row : List ℕ) → fits values row ≡ true → length row ≡ length values
fits_length values row h = sym (both_length fits_at values row h)
