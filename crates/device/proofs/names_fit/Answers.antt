use Rattle.std.proofs.Common.{length, ap, arith}
use Rattle.task.specs.Answers.{held}
use Rattle.device.proofs.Places.{names_left, none_left}
use Rattle.device.proofs.names_fit.Goals as goal

pub returns-then-left-size : goal.returns-then-left-size
returns-then-left-size c =
    omega (arith, c.loop-k.invariant, ap length c.name_of-size.ensures, names_left (held c.args.accepted.now.task) c.args.moves.now c.loop-k.k-index (omega arith))

pub loop-k-preserved : goal.loop-k-preserved
loop-k-preserved c =
    omega (arith, c.loop-k.invariant, ap length c.name_of-size.ensures, names_left (held c.args.accepted.now.task) c.args.moves.now c.loop-k.k-index (omega arith))

pub returns : goal.returns
returns c = omega (arith, c.loop-k.invariant, none_left (held c.args.accepted.now.task) c.args.moves.now c.loop-k.k-index (omega arith))
