use Rattle.std.proofs.Common.{◌≡◌, ◌<◌, true, false, length, get_or, ◌∙◌, subst, arith}
use Rattle.queue.specs.Orders.{goes}
use Rattle.queue.specs.Items.{items}
use Rattle.heap.specs.Heaps.{Lower}
use Rattle.heap.proofs.HeapRows.{shuffled_more, sinking_step, sinking_done, sinking_end}
use Rattle.heap.proofs.heaps.sift_down.Goals as goal

pub returns-then-not-ahead-clause-heaped : goal.returns-then-not-ahead-clause-heaped
returns-then-not-ahead-clause-heaped g c h =
    let C = g.K.Cost in
    let at = c.loop-at.at in
    let child = c.lower-child.result in
    sinking_done C (items c.loop-at.heap) _ at child
    (subst (λ row. Lower C row (length row) at child) c.as_slice.ensures c.lower-child.ensures)
    (subst (λ row. (d : _) → false ≡ goes C (get_or row child d) (get_or row at d)) c.as_slice-in-loop-at.ensures c.if-not-ahead.ensures)
    (c.loop-at.invariant.3 h)

pub loop-at-preserved : goal.loop-at-preserved
loop-at-preserved g c =
    let C = g.K.Cost in
    let xs = items c.loop-at.heap in
    let ys = items c.swap.new.self in
    let at = c.loop-at.at in
    let child = c.lower-child.result in
    let inv = c.loop-at.invariant in
    let low = subst (λ row. Lower C row (length row) at child) c.as_slice.ensures c.lower-child.ensures in
    let here : at < length xs = omega arith in
    let is = c.swap.ensures.items here low.below in (
      c.swap.ensures.lent ∙ inv.0,
      c.swap.ensures.room ∙ inv.1,
      shuffled_more _ xs ys at child here low.below is inv.2,
      λ h. sinking_step C xs ys at child low
          (subst (λ row. (d : _) → true ≡ goes C (get_or row child d) (get_or row at d)) c.as_slice-in-loop-at.ensures c.if-not-ahead.ensures) is (inv.3 h),
    )

pub returns-clause-heaped : goal.returns-clause-heaped
returns-clause-heaped g c h = sinking_end g.K.Cost (items c.loop-at.heap) _ c.loop-at.at (omega arith) (c.loop-at.invariant.3 h)
