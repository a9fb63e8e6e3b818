use Rattle.std.proofs.Common.{ℕ, ◌+◌, sym, subst, arith}
use Rattle.queue.proofs.Scans.{First, first_kept, first_moved}
use Rattle.queue.proofs.scanned_row.first_of.Goals as goal
use Rattle.queue.proofs.scanned_row.first_of.Goals.{then-goes_before, else-goes_before}

pub loop-i-preserved : goal.loop-i-preserved
loop-i-preserved g c =
    let C = g.K.Cost in
    let xs = c.args.row.now in
    let i = c.loop-i.i in
    let inv = c.loop-i.invariant in
    let x = c.index-row-i in
    let y = c.index-row-best in
    elim c.if-goes_before.branch [
      | then-goes_before w ↦ (
        omega (arith, w.best-is),
        subst (λ (b : ℕ). First C xs (i + 1) b) (sym w.best-is)
            (first_moved C xs i c.loop-i.best x.result y.result (omega arith) inv.0 inv.1 x.is y.is w.if-goes_before.ensures),
      )
      | else-goes_before w ↦ (
        omega (arith, w.best-is),
        subst (λ (b : ℕ). First C xs (i + 1) b) (sym w.best-is)
            (first_kept C xs i c.loop-i.best x.result y.result (omega arith) inv.0 inv.1 x.is y.is w.if-goes_before.ensures),
      )
    ]

pub returns : goal.returns
returns g c = record { below = c.loop-i.invariant.0; least = λ k d h. c.loop-i.invariant.1 k d (omega arith) }
