use Rattle.std.proofs.Common.{◌≡◌, length, take}
use Rattle.rows.specs.Rows.{backed}
use Rattle.rows.specs.Calls.{over}
use Rattle.rows.proofs.operators.Operator.write_backed.Given as goal

abbrev pub invariant-loop-v : goal.invariant-loop-v
invariant-loop-v l = l.out ≡ over (take (length l.yielded) (backed l.row l.self.condition.now l.self.effect.now)) l.initial.out
