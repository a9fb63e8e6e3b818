use Rattle.std.proofs.Common.{length, arith, length-append}
use Rattle.std.specs.List.{zip}
use Rattle.std.proofs.lemmas.Iterator.{YieldsList-from_slice, YieldsList-from_zip}
use Rattle.std.proofs.lemmas.Iterator.Consumers.{YieldsList-from_enumerate, YieldsList-turn, YieldsList-end}
use Rattle.rows.specs.Rows.{backed, backed_at}
use Rattle.rows.proofs.Pairs.{backed_pairs, length_backed}
use Rattle.rows.proofs.Writing.{written_more, written_all}
use Rattle.rows.proofs.operators.Operator.write_backed.Goals as goal

pub loop-v-preserved : goal.loop-v-preserved
loop-v-preserved c =
    let g = c.args.row.now in
    let y = c.args.self.now.condition.now in
    let x = c.args.self.now.effect.now in
    written_more (λ q. backed_at q.0.0 q.0.1 q.1) (zip (zip g y) x) c.args.out.now (backed g y x) c.loop-v.out (length c.loop-v.yielded) _ c.in-Some.v c.backed_byte.result ((c.in-Some.b.now, c.in-Some.y.now), c.in-Some.x.now) (length-append c.loop-v.yielded _)
    (backed_pairs g y x) (omega (arith, length_backed g y x)) c.backed_byte.ensures
    (YieldsList-turn (YieldsList-from_enumerate (YieldsList-from_zip (YieldsList-from_zip (YieldsList-from_slice g (cc)) (YieldsList-from_slice y (cc))) (YieldsList-from_slice x (cc))) (cc)) c.loop-v.yielded c.loop-v.v-iterator c.loop-v.yielded_by c.next.result c.next.new.self _ c.in-Some.is c.next.ensures.steps)
    c.loop-v.invariant

pub returns : goal.returns
returns c =
    let g = c.args.row.now in
    let y = c.args.self.now.condition.now in
    let x = c.args.self.now.effect.now in
    written_all (λ q. backed_at q.0.0 q.0.1 q.1) (zip (zip g y) x) c.args.out.now (backed g y x) c.loop-v.out (length c.loop-v.yielded) (backed_pairs g y x)
    (YieldsList-end (YieldsList-from_enumerate (YieldsList-from_zip (YieldsList-from_zip (YieldsList-from_slice g (cc)) (YieldsList-from_slice y (cc))) (YieldsList-from_slice x (cc))) (cc)) c.loop-v.yielded c.loop-v.v-iterator c.loop-v.yielded_by c.next.result c.next.new.self c.in-None.is c.next.ensures.steps).1
    c.loop-v.invariant
