-- What plans cost, by the prices of their moves.
use Rattle.std.specs.Prelude.{◌≡◌, ℕ, ◌<◌, ◌≤◌, ◌⊎◌, List, [], length, slice_index}
use Rattle.std.specs.List.{ContainsAt as Has, AllByRecursion}
use Rattle.rows.specs.declared.refusals.Refusal.{Refusal}
use Rattle.rows.specs.declared.refusals.Refusal.TheVariants.{Price, Long}

-- m is the largest of the numbers, or 0 where there is none
pub record Largest (ps : List ℕ) (m : ℕ) : Type 0 where
  pub above : AllByRecursion (λ p. p ≤ m) ps
  pub there : Has ps m ⊎ ((ps ≡ []) × (m ≡ 0))

-- no price is over the highest
abbrev pub Payable : List ℕ → Type 0
Payable ps = (k : ℕ) → k < length ps → slice_index ps k ≤ 1000000000

-- why a plan has no cost in memory: it is too long, or else a price is too high
abbrev pub PlanRefused : List ℕ → Refusal → Type 0
PlanRefused ps e =
    ((e ≡ Long) × (65535 < length ps))
    ⊎ ((e ≡ Price) × (length ps ≤ 65535) × ((k : ℕ) × (k < length ps) × (1000000000 < slice_index ps k)))
