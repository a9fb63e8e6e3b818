use Rattle.std.proofs.Common.{◌≡◌, ◌+◌, length, take, drop}
use Rattle.task.specs.Answers.{held}
use Rattle.device.specs.Texts.{name_lines, Placed}
use Rattle.device.proofs.put_names.Given as goal

abbrev pub invariant-loop-k : goal.invariant-loop-k
invariant-loop-k l =
    Placed l.at (name_lines (held l.accepted.task) (take l.k-index l.moves)) l.initial.out l.end l.out
    × (l.end + length (name_lines (held l.accepted.task) (drop l.k-index l.moves)) ≡ l.at + length (name_lines (held l.accepted.task) l.moves))
