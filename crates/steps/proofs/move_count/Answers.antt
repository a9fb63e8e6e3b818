use Rattle.std.proofs.Common.{arith}
use Rattle.task.specs.Answers.{held}
use Rattle.task.proofs.Judgings.{counted}
use Rattle.steps.proofs.Tasks.{move_count_lem}
use Rattle.steps.proofs.move_count.Goals as goal

pub returns : goal.returns
returns c =
    let a = c.args.accepted.now in
    let few = (counted (held a.task) a.counted).not_many in
    omega (arith, few, c.count.ensures, move_count_lem (held a.task))
