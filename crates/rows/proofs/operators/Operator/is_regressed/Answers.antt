use Rattle.std.proofs.Common.{◌+◌, ◌||◌, length, drop, sym, ap, ◌∙◌, length-append}
use Rattle.std.proofs.lemmas.Iterator.{YieldsList-from_slice, YieldsList-from_zip}
use Rattle.std.proofs.lemmas.Iterator.Consumers.{YieldsList-turn, YieldsList-end}
use Rattle.rows.proofs.Regressing.{left, left_more, left_none, left_end}
use Rattle.rows.proofs.operators.Operator.is_regressed.Goals as goal

pub returns-then-not-is_clear : goal.returns-then-not-is_clear
returns-then-not-is_clear c =
    let g = c.args.row.now in
    let y = c.args.self.now.condition.now in
    let x = c.args.self.now.effect.now in
    sym (c.loop-b.invariant
    ∙ left_none g y x c.loop-b.hit (length c.loop-b.yielded) c.in-Some.b.now c.in-Some.y.now c.in-Some.x.now
    (YieldsList-turn (YieldsList-from_zip (YieldsList-from_zip (YieldsList-from_slice g (cc)) (YieldsList-from_slice y (cc))) (YieldsList-from_slice x (cc)))
    c.loop-b.yielded c.loop-b.b-iterator c.loop-b.yielded_by c.next.result c.next.new.self _ c.in-Some.is c.next.ensures.steps)
    (sym c.is_clear.ensures ∙ c.if-not-is_clear.true))

pub loop-b-preserved : goal.loop-b-preserved
loop-b-preserved c =
    let g = c.args.row.now in
    let y = c.args.self.now.condition.now in
    let x = c.args.self.now.effect.now in
    let n = length c.loop-b.yielded in
    rw (length-append c.loop-b.yielded _)
    (c.loop-b.invariant
    ∙ left_more g y x c.loop-b.hit n c.in-Some.b.now c.in-Some.y.now c.in-Some.x.now
    (YieldsList-turn (YieldsList-from_zip (YieldsList-from_zip (YieldsList-from_slice g (cc)) (YieldsList-from_slice y (cc))) (YieldsList-from_slice x (cc)))
    c.loop-b.yielded c.loop-b.b-iterator c.loop-b.yielded_by c.next.result c.next.new.self _ c.in-Some.is c.next.ensures.steps)
    (sym c.is_clear.ensures ∙ c.if-not-is_clear.false)
    ∙ ap (λ h. left h (drop (n + 1) g) (drop (n + 1) y) (drop (n + 1) x)) (ap (λ t. c.loop-b.hit || t) (sym c.strikes-hit.ensures)))

pub returns : goal.returns
returns c =
    let g = c.args.row.now in
    let y = c.args.self.now.condition.now in
    let x = c.args.self.now.effect.now in
    sym (c.loop-b.invariant
    ∙ left_end g y x c.loop-b.hit (length c.loop-b.yielded) c.requires
    (YieldsList-end (YieldsList-from_zip (YieldsList-from_zip (YieldsList-from_slice g (cc)) (YieldsList-from_slice y (cc))) (YieldsList-from_slice x (cc)))
    c.loop-b.yielded c.loop-b.b-iterator c.loop-b.yielded_by c.next.result c.next.new.self c.in-None.is c.next.ensures.steps).1)
