use Rattle.task.specs.Answers.{held}
use Rattle.task.proofs.Readings.{judged_parts}
use Rattle.task.proofs.reader.parse.Goals as goal

pub invariant_of-result : goal.invariant_of-result
invariant_of-result c =
    let b = held c.split-task.result in
    let j = (judged_parts b b c.in_ok-check.ensures).1 in
    record { counted = j.counted; positioned = j.positioned; priced = j.priced; named = j.named }
