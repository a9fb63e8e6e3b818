use Rattle.cost.proofs.PlanCosts.{spend_is, spend_then_moves_is, peak_is}
use Rattle.cost.proofs.plans.plans_cost.Goals as goal

pub returns : goal.returns
returns c = record { spend = spend_is; spend_then_moves = spend_then_moves_is; peak = peak_is }
