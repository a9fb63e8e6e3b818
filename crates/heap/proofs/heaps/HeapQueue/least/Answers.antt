use Rattle.std.proofs.Common.{◌≡◌, Some, slice_get, refl, sym, subst}
use Rattle.std.proofs.lemmas.Option.{slice_get_within, get_or_from_slice_get}
use Rattle.heap.proofs.HeapRows.{root_least}
use Rattle.heap.proofs.heaps.HeapQueue.least.Goals as goal

pub returns-clause-names : goal.returns-clause-names
returns-clause-names g c h =
    let x = c.in_ok-root.root.now in
    let first = sym (subst (λ row. Some x ≡ slice_get row 0) c.as_slice.ensures c.in_ok-root.ensures.value) in
    (x, root_least g.K.Cost _ x (slice_get_within _ 0 x first) (sym (get_or_from_slice_get _ 0 x x first)) h, refl)
