use Rattle.std.proofs.Common.{◌≡◌, ◌<◌, length, take, get_or, ◌∙◌, arith}
use Rattle.std.proofs.lemmas.List.{length-take-le, get_or-take}
use Rattle.queue.proofs.Runs.{of_ok, put_more}
use Rattle.queue.proofs.batches.put_all.Goals as goal

pub loop-i-preserved : goal.loop-i-preserved
loop-i-preserved g c =
    let Q = g.Q.Queue in
    let inv = c.loop-i.invariant in
    let told = c.put.ensures in
    let n = c.min-n.result in
    let long : length (take n c.args.costs.now) ≡ n = length-take-le n c.args.costs.now (omega arith) in
    let x = c.cost-item.result in
    let here : x ≡ get_or c.args.costs.now c.loop-i.i x = c.cost-item.is ∙ get_or-take n c.args.costs.now c.loop-i.i x (omega arith) in
    let free : length (Q.entries c.loop-i.q) < Q.room c.loop-i.q = omega (arith, inv.1, inv.2) in
    let grown : length (Q.entries c.put.new.self) ≡ _ = (of_ok c.put.result _ _ _ _ told.count told.count (λ e q. omega (arith, q.0))).1.1 in (
      told.lent ∙ inv.0,
      told.room ∙ inv.1,
      omega (arith, grown, inv.2),
      λ h. told.ordered (inv.3 h),
      λ h.
          put_more (Q.entries c.args.q.now) c.args.costs.now c.loop-i.i (Q.entries c.loop-i.q) (Q.entries c.put.new.self) x
          (omega arith) here (inv.4 h)
          (of_ok c.put.result _ _ _ _ told.count (told.entries (inv.3 h)) (λ e q. omega (arith, q.0))).2,
    )
