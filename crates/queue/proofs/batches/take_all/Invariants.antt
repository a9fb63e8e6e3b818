use Rattle.std.proofs.Common.{◌≡◌, ◌+◌, length, take, drop}
use Rattle.queue.specs.Batches.{Drained}
use Rattle.queue.proofs.batches.take_all.Given as goal

abbrev pub invariant-loop-i : goal.invariant-loop-i
invariant-loop-i g l =
    let Q = g.Q.Queue in
    let old = l.initial.q in
    (Q.lent l.q ≡ Q.lent old)
    × (Q.room l.q ≡ Q.room old)
    × (length (Q.entries l.q) + l.i ≡ length (Q.entries old))
    × (drop l.i l.numbers ≡ drop l.i l.initial.numbers)
    × (Q.ordered old → Q.ordered l.q)
    × (Q.ordered old → Drained g.K.Cost (Q.entries old) (take l.i l.numbers) (Q.entries l.q))
