use Rattle.std.proofs.Common.{arith, rules}
use Rattle.rows.specs.Rows.{covers, overlaid}
use Rattle.rows.specs.Calls.{even}
use Rattle.rows.proofs.Outcomes.{placed_whole, Even, even_parts}
use Rattle.rows.proofs.Pairs.{length_overlaid}
use Rattle.rows.proofs.operators.Operator.apply_row.Goals as goal

pub returns : goal.returns
returns c =
    let y = c.args.self.now.condition.now in
    let x = c.args.self.now.effect.now in
    let s = c.args.state.now in
    let out = c.args.out.now in
    let e : Even y x s out = even_parts y x s out (search rules) in
    placed_whole (even y x s out) (covers y s) (overlaid x s) out (search rules) (search rules)
    c.write_overlaid.new.out (omega (arith, length_overlaid x s e.effect, e.buffer)) c.write_overlaid.ensures
