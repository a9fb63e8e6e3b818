use Rattle.std.proofs.Common.{◌++◌, length, refl, ap, arith}
use Rattle.task.specs.Answers.{held}
use Rattle.device.specs.Texts.{newline}
use Rattle.device.proofs.Places.{placed_none, placed_then, placed_as, names_left, names_more, names_all, length_line}
use Rattle.device.proofs.put_names.Goals as goal

pub loop-k-init : goal.loop-k-init
loop-k-init c = (placed_none c.args.at c.args.out.now (omega arith), refl)

pub put_line-end-requires : goal.put_line-end-requires
put_line-end-requires c =
    omega (arith, c.loop-k.invariant.1, ap length c.name_of.ensures, names_left (held c.args.accepted.now.task) c.args.moves.now c.loop-k.k-index (omega arith))

pub loop-k-preserved : goal.loop-k-preserved
loop-k-preserved c =
    let b = held c.args.accepted.now.task in
    let ks = c.args.moves.now in
    let i = c.loop-k.k-index in
    let line = placed_as (ap (λ x. x ++ newline) c.name_of.ensures) c.put_line-end.ensures in (
      placed_as (names_more b ks i (omega arith)) (placed_then (omega arith) c.loop-k.invariant.0 line),
      omega (arith, c.loop-k.invariant.1, names_left b ks i (omega arith), c.put_line-end.ensures.ends, length_line c.name_of.result.now, ap length c.name_of.ensures),
    )

pub returns : goal.returns
returns c = placed_as (names_all (held c.args.accepted.now.task) c.args.moves.now c.loop-k.k-index (omega arith)) c.loop-k.invariant.0
