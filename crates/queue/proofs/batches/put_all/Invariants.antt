use Rattle.std.proofs.Common.{◌≡◌, ◌+◌, ◌++◌, length, take}
use Rattle.std.specs.List.Sorted.{IsPermutation}
use Rattle.queue.specs.Batches.{numbered}
use Rattle.queue.proofs.batches.put_all.Given as goal

abbrev pub invariant-loop-i : goal.invariant-loop-i
invariant-loop-i g l =
    let Q = g.Q.Queue in
    let old = l.initial.q in
    (Q.lent l.q ≡ Q.lent old)
    × (Q.room l.q ≡ Q.room old)
    × (length (Q.entries l.q) ≡ length (Q.entries old) + l.i)
    × (Q.ordered old → Q.ordered l.q)
    × (Q.ordered old → IsPermutation (numbered (take l.i l.costs) 0 ++ Q.entries old) (Q.entries l.q))
