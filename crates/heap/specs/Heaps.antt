-- A binary heap in the first n places of a row: right below place i lie the places 2i + 1 and 2i + 2.
use Rattle.std.specs.Prelude.{◌≡◌, ℕ, ◌-◌, ◌/◌, ◌<◌, false, List, [], length, slice_index_or}
use Rattle.std.proofs.Common.{ap, arith}
use Rattle.cost.specs.declared.costs.Cost as cost
use Rattle.queue.specs.declared.entries.Entry.{Entry}
use Rattle.queue.specs.Orders.{goes}
use Rattle.queue.specs.Places.{used, front, length_front}

module _ {K : Type 0} (C : cost.Ghosts K) where
  -- none comes before the one above it
  abbrev pub Heaped : List (Entry K) → ℕ → Type 0
  Heaped xs n = (j : ℕ) (d : Entry K) → 0 < j → j < n → goes C (slice_index_or xs j d) (slice_index_or xs ((j - 1) / 2) d) ≡ false

  -- the same, but for place 0 and those right below it
  abbrev pub Rooted : List (Entry K) → ℕ → Type 0
  Rooted xs n = (j : ℕ) (d : Entry K) → 0 < (j - 1) / 2 → j < n → goes C (slice_index_or xs j d) (slice_index_or xs ((j - 1) / 2) d) ≡ false

  -- r is a place right below i, and of those none comes before it
  pub record Lower (xs : List (Entry K)) (n i r : ℕ) : Type 0 where
    pub pos : 0 < r
    pub below : r < n
    pub child : (r - 1) / 2 ≡ i
    pub least : (s : ℕ) (d : Entry K) → 0 < s → s < n → (s - 1) / 2 ≡ i → goes C (slice_index_or xs s d) (slice_index_or xs r d) ≡ false

  pub none_heaped : (xs : List (Entry K)) → xs ≡ [] → Heaped xs (length xs)
  none_heaped xs e j d hj jn = absurd (omega (arith, ap length e))

  -- the same of a row of memory of which none is in use
  pub empty_heaped : (count : ℕ) (xs : List (Entry K)) → front count xs ≡ [] → Heaped xs (used count (length xs))
  empty_heaped count xs e j d hj jn = absurd (omega (arith, ap length e, length_front count xs))
