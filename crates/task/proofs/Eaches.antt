-- A test of each number below another, and records side by side.
use Rattle.std.proofs.Common.{◌≡◌, ℕ, zero, suc, ◌+◌, ◌*◌, ◌/◌, ◌<◌, ◌≤◌, Bool, true, false, ◌&&◌, refl, ap, ◌∙◌, ⊎_elim, mul-le-mul_right, div-mul-le_self, arith}
use Rattle.std.proofs.lemmas.Bool.{and_from, and_parts, cases_order}
use Rattle.std.specs.List.{list_all, range_with_len}
use Rattle.task.specs.Files.{each}

swapped : (a b r : Bool) → (a && (b && r)) ≡ (b && (a && r))
swapped true b r = refl
swapped false true r = refl
swapped false false r = refl

module _ (p : ℕ → Bool) where
  pub each_from : (n : ℕ) → ((k : ℕ) → k < n → p k ≡ true) → each p n ≡ true
  each_from zero h = refl
  each_from (suc n) h = and_from (p n) (each p n) (h n (omega arith)) (each_from n (λ k l. h k (omega arith)))

  pub each_at : (n : ℕ) → each p n ≡ true → (k : ℕ) → k < n → p k ≡ true
  each_at zero h k l = absurd (omega arith)
  each_at (suc n) h k l = ⊎_elim
      (λ (s : k ≡ n). rw s (and_parts (p n) (each p n) h).0)
      (⊎_elim (λ (b : k < n). each_at n (and_parts (p n) (each p n) h).1 k b) (λ (b : n < k). absurd (omega arith)))
      (cases_order k n)

  -- the same of the numbers from 0 on, as a list
  range_more : (a n : ℕ) → list_all p (range_with_len a (suc n)) ≡ (p (a + n) && list_all p (range_with_len a n))
  range_more a zero = ap (λ i. p i && true) (omega arith)
  range_more a (suc n) =
      ap (λ t. p a && t) (range_more (a + 1) n ∙ ap (λ i. p i && list_all p (range_with_len (a + 1) n)) (omega arith))
      ∙ swapped (p a) (p (a + suc n)) (list_all p (range_with_len (a + 1) n))

  pub each_is : (n : ℕ) → list_all p (range_with_len 0 n) ≡ each p n
  each_is zero = refl
  each_is (suc n) = range_more 0 n ∙ ap (λ i. p i && list_all p (range_with_len 0 n)) (omega arith) ∙ ap (λ t. p n && t) (each_is n)

-- of records of s bytes side by side, one of those that n bytes hold lies within them
pub record_within : (k n s : ℕ) → k < n / s → k * s + s ≤ n
record_within k n s h =
    let le : suc k * s ≤ n / s * s = mul-le-mul_right s h in
    omega (arith, div-mul-le_self n s, le)
