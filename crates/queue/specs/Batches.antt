-- Entries that are put into a queue, or taken out of it, one after the other.
use Rattle.std.specs.Prelude.{◌≡◌, ℕ, suc, false, List, [], ◌∷◌, ◌++◌, map}
use Rattle.std.specs.List.Sorted.{IsPermutation}
use Rattle.std.specs.List.{AllByRecursion}
use Rattle.cost.specs.declared.costs.Cost as cost
use Rattle.queue.specs.declared.entries.Entry.{Entry}
use Rattle.queue.specs.Orders.{goes}

-- these costs as entries, each under the number of its place, from i on
abbrev pub numbered : {K : Type 0} → List K → ℕ → List (Entry K)
numbered [] i = []
numbered (k ∷ ks) i = record { cost = k; number = i } ∷ numbered ks (suc i)

module _ {K : Type 0} (C : cost.Ghosts K) where
  -- none comes before one that stands earlier
  abbrev pub InOrder : List (Entry K) → Type 0
  InOrder [] = Unit {0}
  InOrder (e ∷ es) = AllByRecursion (λ d. goes C d e ≡ false) es × InOrder es

  -- out of xs came entries with the numbers ns, in order, and those left are ys: none of these comes before one that came out
  pub record Drained (xs : List (Entry K)) (ns : List ℕ) (ys : List (Entry K)) : Type 0 where
    pub out : List (Entry K)
    pub numbers : ns ≡ map (λ e. e.number) out
    pub order : InOrder out
    pub later : AllByRecursion (λ e. AllByRecursion (λ d. goes C d e ≡ false) ys) out
    pub same : IsPermutation (out ++ ys) xs
