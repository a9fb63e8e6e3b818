use Rattle.std.proofs.Common.{◌≡◌, ℕ, ◌≤◌, List, ◌++◌, length}
use Rattle.std.specs.List.{AllByRecursion}
use Rattle.cost.specs.Costs.{cost_of}
use Rattle.cost.specs.Limits.{Within}
use Rattle.cost.proofs.plans.plan_cost.Given as goal

-- the last prices are joined
abbrev pub invariant-loop-price : goal.invariant-loop-price
invariant-loop-price g l =
    let C = g.K.Cost in
    (ps : List ℕ)
    × (l.prices ≡ l.price-iterator.iter.rest.now ++ ps)
    × (C.value l.cost ≡ cost_of C.arithmetic ps)
    × (C.joins l.cost ≡ length ps)
    × AllByRecursion (λ p. p ≤ 1000000000) ps
    × Within (C.plain l.cost) (C.joins l.cost)
