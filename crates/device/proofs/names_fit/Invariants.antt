use Rattle.std.proofs.Common.{◌≡◌, ◌+◌, length, drop}
use Rattle.task.specs.Answers.{held}
use Rattle.device.specs.Texts.{name_lines}
use Rattle.device.proofs.names_fit.Given as goal

abbrev pub invariant-loop-k : goal.invariant-loop-k
invariant-loop-k l = l.left + length (name_lines (held l.accepted.task) l.moves) ≡ l.room + length (name_lines (held l.accepted.task) (drop l.k-index l.moves))
