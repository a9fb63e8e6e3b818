use Rattle.std.proofs.Common.{◌&&◌, arith, rules}
use Rattle.rows.specs.Rows.{hits, clear, backed}
use Rattle.rows.specs.Calls.{even}
use Rattle.rows.proofs.Outcomes.{placed_whole, Even, even_parts}
use Rattle.rows.proofs.Pairs.{length_backed}
use Rattle.rows.proofs.operators.Operator.regress_row.Goals as goal

pub returns : goal.returns
returns c =
    let y = c.args.self.now.condition.now in
    let x = c.args.self.now.effect.now in
    let g = c.args.row.now in
    let out = c.args.out.now in
    let e : Even y x g out = even_parts y x g out (search rules) in
    placed_whole (even y x g out) (hits g x && clear g y x) (backed g y x) out (search rules) (search rules)
    c.write_backed.new.out (omega (arith, length_backed g y x, e.condition, e.effect, e.buffer)) c.write_backed.ensures
