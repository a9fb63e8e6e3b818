use Rattle.std.proofs.Common.{arith}
use Rattle.std.proofs.lemmas.List.Sorted.{IsPermutation-trans, IsPermutation-sym, IsPermutation-cons, length_permutation}
use Rattle.queue.specs.Items.{items}
use Rattle.queue.proofs.Fronts.{taken_out}
use Rattle.heap.proofs.HeapRows.{rooted_from, root_least}
use Rattle.heap.proofs.heaps.HeapQueue.take.Goals as goal

pub returns-clause-count : goal.returns-clause-count
returns-clause-count g c =
    let out = c.in_ok-root.ensures.taken in
    omega (
      arith,
      length_permutation _ _ c.sift_down.ensures.same,
      length_permutation _ _ (taken_out (items c.args.self.now.waiting) (items c.swap_remove.new.self) 0 c.in_ok-root.root out.0 out.1 out.2),
    )

pub returns-clause-ordered : goal.returns-clause-ordered
returns-clause-ordered g c h = c.sift_down.ensures.heaped (rooted_from g.K.Cost _ _ _ c.in_ok-root.ensures.taken.2 h)

pub returns-clause-entries : goal.returns-clause-entries
returns-clause-entries g c h =
    let root = c.in_ok-root.root in
    let out = c.in_ok-root.ensures.taken in (
      root_least g.K.Cost _ root out.0 out.1 h,
      IsPermutation-trans _ _ _ (IsPermutation-sym _ _ (IsPermutation-cons root _ _ c.sift_down.ensures.same)) (taken_out _ _ 0 root out.0 out.1 out.2),
    )
