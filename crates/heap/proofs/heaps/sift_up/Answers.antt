use Rattle.std.proofs.Common.{◌≡◌, ◌-◌, ◌/◌, true, false, length, get_or, ◌∙◌, sym, subst, arith}
use Rattle.queue.specs.Orders.{goes}
use Rattle.queue.specs.Items.{items}
use Rattle.heap.proofs.HeapRows.{length_exchanged, shuffled_more, raising_step, raising_done}
use Rattle.heap.proofs.heaps.sift_up.Goals as goal

pub returns-then-not-ahead-clause-heaped : goal.returns-then-not-ahead-clause-heaped
returns-then-not-ahead-clause-heaped g c h =
    let C = g.K.Cost in
    let at = c.loop-at.at in
    raising_done C (items c.loop-at.heap) _ at (c.loop-at.invariant.4 h)
    (λ pos d. sym (subst (λ row. false ≡ goes C (get_or row at d) (get_or row ((at - 1) / 2) d)) c.as_slice.ensures (c.if-not-ahead.ensures d)))

pub loop-at-preserved : goal.loop-at-preserved
loop-at-preserved g c =
    let C = g.K.Cost in
    let xs = items c.loop-at.heap in
    let ys = items c.swap.new.self in
    let at = c.loop-at.at in
    let inv = c.loop-at.invariant in
    let is = c.swap.ensures.items inv.3 (omega (arith, inv.3)) in
    let long : length ys ≡ length xs = length_exchanged xs ys at ((at - 1) / 2) is in (
      c.swap.ensures.lent ∙ inv.0,
      c.swap.ensures.room ∙ inv.1,
      shuffled_more _ xs ys at ((at - 1) / 2) inv.3 (omega (arith, inv.3)) is inv.2,
      omega (arith, inv.3),
      λ h. raising_step C xs ys at (omega arith) inv.3
          (subst (λ row. (d : _) → true ≡ goes C (get_or row at d) (get_or row ((at - 1) / 2) d)) c.as_slice.ensures c.if-not-ahead.ensures) is (inv.4 h),
    )

pub returns-clause-heaped : goal.returns-clause-heaped
returns-clause-heaped g c h = raising_done g.K.Cost (items c.loop-at.heap) _ c.loop-at.at (c.loop-at.invariant.4 h) (λ pos d. absurd (omega arith))
