use Rattle.task.specs.Answers.{held}
use Rattle.task.proofs.Readings.{judged_parts}
use Rattle.task.proofs.Judgings.{not_long}
use Rattle.task.proofs.writer.fill.Goals as goal

pub invariant_of-bodies : goal.invariant_of-bodies
invariant_of-bodies c = let b = held c.args.task.now in record { small = not_long b (judged_parts b b c.in_ok-check.ensures).1 }
