use Rattle.std.proofs.Common.{sym, ap}
use Rattle.queue.proofs.Scans.{leads_least}
use Rattle.queue.proofs.scanned_row.ScannedRowQueue.least.Goals as goal

pub returns-clause-names : goal.returns-clause-names
returns-clause-names g c u =
    let x = c.index-row-at in
    rw (← c.as_slice-row.ensures)
    (x.result, leads_least g.K.Cost c.as_slice-row.result.now c.in_ok-at.at x.result c.in_ok-at.ensures x.is, ap (λ e. e.number) (sym x.is))
