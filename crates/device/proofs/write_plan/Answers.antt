use Rattle.std.proofs.Common.{◌++◌, length, codes, ap, arith}
use Rattle.task.specs.Answers.{held}
use Rattle.device.specs.Texts.{newline}
use Rattle.device.proofs.Places.{plan_length, placed_then, placed_as, placed_fits}
use Rattle.device.proofs.write_plan.Goals as goal

pub returns : goal.returns
returns c =
    let a = c.format-amount.ensures.text in
    placed_fits (placed_then (omega arith) (placed_as (ap (λ x. codes "cost " ++ (x ++ newline)) a) c.put_cost-end.ensures) c.put_names.ensures)
    (omega (arith, ap length a, c.if-not-names_fit.ensures, plan_length (held c.args.accepted.now.task) c.args.amount c.args.moves.now))
