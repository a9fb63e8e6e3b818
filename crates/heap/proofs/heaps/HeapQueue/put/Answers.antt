use Rattle.std.proofs.Common.{length, ap, ◌∙◌}
use Rattle.std.proofs.lemmas.List.{length_push}
use Rattle.std.proofs.lemmas.List.Sorted.{IsPermutation-trans, length_permutation}
use Rattle.queue.proofs.Fronts.{added_at_end}
use Rattle.heap.proofs.HeapRows.{heaped_push}
use Rattle.heap.proofs.heaps.HeapQueue.put.Goals as goal

pub returns-clause-count : goal.returns-clause-count
returns-clause-count g c =
    let done = c.in_ok-push.ensures.done in
    (done.0, length_permutation _ _ c.sift_up.ensures.same ∙ ap length done.1 ∙ length_push _ _)

pub returns-clause-ordered : goal.returns-clause-ordered
returns-clause-ordered g c h = c.sift_up.ensures.heaped (heaped_push g.K.Cost _ _ _ c.in_ok-push.ensures.done.1 h)

pub returns-clause-entries : goal.returns-clause-entries
returns-clause-entries g c h = IsPermutation-trans _ _ _ (added_at_end _ _ _ c.in_ok-push.ensures.done.1) c.sift_up.ensures.same
