use Rattle.std.proofs.Common.{◌≡◌, length, take}
use Rattle.rows.specs.Rows.{overlaid}
use Rattle.rows.specs.Calls.{over}
use Rattle.rows.proofs.operators.Operator.write_overlaid.Given as goal

abbrev pub invariant-loop-v : goal.invariant-loop-v
invariant-loop-v l = l.out ≡ over (take (length l.yielded) (overlaid l.self.effect.now l.state)) l.initial.out
