use Rattle.cost.proofs.PlanCosts.{kept, rest}
use Rattle.cost.proofs.plans.joining_keeps.Goals as goal

pub returns : goal.returns
returns g c = record { kept = kept g.K.Cost.arithmetic; rest = rest g.K.Cost.arithmetic }
