-- What a queue's calls answer, over the collection of its entries.
use Rattle.std.specs.Prelude.{◌≡◌, ℕ, ◌<◌, Bool, false, not, ◌&&◌, ◌||◌, List, ◌∷◌, nat_lt, slice_index_or}
use Rattle.std.specs.List.Sorted.{IsPermutation}
use Rattle.std.specs.List.{ContainsAt as Has}
use Rattle.cost.specs.declared.costs.Cost as cost
use Rattle.queue.specs.declared.entries.Entry.{Entry}

module _ {K : Type 0} (C : cost.Ghosts K) where
  -- d comes before e: its cost does, or the costs tie and its number is lower
  abbrev pub goes : Entry K → Entry K → Bool
  goes d e =
      C.arithmetic.before (C.value d.cost) (C.value e.cost)
      || (not (C.arithmetic.before (C.value e.cost) (C.value d.cost)) && nat_lt d.number e.number)

  -- e is in the collection, and no other comes before it; of entries that tie in cost and number each is such a one
  pub record Least (xs : List (Entry K)) (e : Entry K) : Type 0 where
    pub there : Has xs e
    pub least : (d : Entry K) → Has xs d → goes d e ≡ false

  -- n is the number of such an entry
  abbrev pub Names : List (Entry K) → ℕ → Type 0
  Names xs n = (e : Entry K) × Least xs e × (n ≡ e.number)

  -- of the first n places of xs none comes before place b, which is one of them
  pub record Leads (xs : List (Entry K)) (n b : ℕ) : Type 0 where
    pub below : b < n
    pub least : (k : ℕ) (d : Entry K) → k < n → goes (slice_index_or xs k d) (slice_index_or xs b d) ≡ false

-- ys is xs with e added, as collections
abbrev pub Added : {K : Type 0} → List (Entry K) → Entry K → List (Entry K) → Type 0
Added xs e ys = IsPermutation (e ∷ xs) ys
