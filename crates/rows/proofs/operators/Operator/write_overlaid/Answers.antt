use Rattle.std.proofs.Common.{length, arith, length-append}
use Rattle.std.specs.List.{zip}
use Rattle.std.proofs.lemmas.Iterator.{YieldsList-from_slice, YieldsList-from_zip}
use Rattle.std.proofs.lemmas.Iterator.Consumers.{YieldsList-from_enumerate, YieldsList-turn, YieldsList-end}
use Rattle.rows.specs.Rows.{overlaid, overlaid_at}
use Rattle.rows.proofs.Pairs.{overlaid_pairs, length_overlaid}
use Rattle.rows.proofs.Writing.{written_more, written_all}
use Rattle.rows.proofs.operators.Operator.write_overlaid.Goals as goal

pub loop-v-preserved : goal.loop-v-preserved
loop-v-preserved c =
    let x = c.args.self.now.effect.now in
    let s = c.args.state.now in
    written_more (λ q. overlaid_at q.0 q.1) (zip x s) c.args.out.now (overlaid x s) c.loop-v.out (length c.loop-v.yielded) _ c.in-Some.v c.overlaid_byte.result (c.in-Some.x.now, c.in-Some.b.now) (length-append c.loop-v.yielded _)
    (overlaid_pairs x s c.requires.effect) (omega (arith, length_overlaid x s c.requires.effect)) c.overlaid_byte.ensures
    (YieldsList-turn (YieldsList-from_enumerate (YieldsList-from_zip (YieldsList-from_slice x (cc)) (YieldsList-from_slice s (cc))) (cc)) c.loop-v.yielded c.loop-v.v-iterator c.loop-v.yielded_by c.next.result c.next.new.self _ c.in-Some.is c.next.ensures.steps)
    c.loop-v.invariant

pub returns : goal.returns
returns c =
    let x = c.args.self.now.effect.now in
    let s = c.args.state.now in
    written_all (λ q. overlaid_at q.0 q.1) (zip x s) c.args.out.now (overlaid x s) c.loop-v.out (length c.loop-v.yielded) (overlaid_pairs x s c.requires.effect)
    (YieldsList-end (YieldsList-from_enumerate (YieldsList-from_zip (YieldsList-from_slice x (cc)) (YieldsList-from_slice s (cc))) (cc)) c.loop-v.yielded c.loop-v.v-iterator c.loop-v.yielded_by c.next.result c.next.new.self c.in-None.is c.next.ensures.steps).1
    c.loop-v.invariant
