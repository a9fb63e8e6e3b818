use Rattle.std.proofs.lemmas.Result.{MatchResult-weaker}
use Rattle.queue.proofs.Fronts.{added_at_end}
use Rattle.queue.proofs.scanned_row.ScannedRowQueue.put.Goals as goal

pub returns-clause-entries : goal.returns-clause-entries
returns-clause-entries g c u = MatchResult-weaker c.push.result c.push.ensures.done (λ _ h. added_at_end _ _ _ h.1) (λ _ _. tt)
