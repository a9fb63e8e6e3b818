use Rattle.std.proofs.Common.{length, subst}
use Rattle.queue.specs.Orders.{Leads}
use Rattle.queue.specs.Items.{items}
use Rattle.queue.proofs.Scans.{least_taken}
use Rattle.queue.proofs.scanned_row.ScannedRowQueue.take.Goals as goal

pub returns-clause-entries : goal.returns-clause-entries
returns-clause-entries g c u =
    let at = c.in_ok-at.at in
    least_taken g.K.Cost (items c.args.self.now.waiting) (items c.swap_remove.new.self) at c.swap_remove.result _
    (subst (λ row. Leads g.K.Cost row (length row) at) c.as_slice.ensures c.in_ok-at.ensures) c.swap_remove.ensures.taken
