-- A test of each byte: of the whole list, and place by place.
use Rattle.std.proofs.Common.{◌≡◌, ℕ, zero, suc, ◌<◌, Bool, true, List, [], ◌∷◌, length, get_or, refl, arith}
use Rattle.std.proofs.lemmas.Bool.{and_parts, and_from}
use Rattle.rows.specs.Rows.{all}

module _ (p : ℕ → Bool) where
  pub all_at : (xs : List ℕ) → all p xs ≡ true → (i : ℕ) → i < length xs → p (get_or xs i 0) ≡ true
  all_at [] h i k = absurd (omega arith)
  all_at (a ∷ xs) h zero k = (and_parts (p a) (all p xs) h).0
  all_at (a ∷ xs) h (suc i) k = all_at xs (and_parts (p a) (all p xs) h).1 i (omega arith)

  pub all_from : (xs : List ℕ) → ((i : ℕ) → i < length xs → p (get_or xs i 0) ≡ true) → all p xs ≡ true
  all_from [] h = refl
  all_from (a ∷ xs) h = and_from (p a) (all p xs) (h 0 (omega arith)) (all_from xs (λ i k. h (suc i) (omega arith)))
