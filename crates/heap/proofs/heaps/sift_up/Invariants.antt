use Rattle.std.proofs.Common.{◌≡◌, ◌-◌, ◌<◌, length}
use Rattle.std.specs.List.Sorted.{IsPermutation}
use Rattle.queue.specs.Places.{room}
use Rattle.queue.specs.Items.{items}
use Rattle.heap.specs.Heaps.{Heaped}
use Rattle.heap.proofs.HeapRows.{Raising}
use Rattle.heap.proofs.heaps.sift_up.Given as goal

abbrev pub invariant-loop-at : goal.invariant-loop-at
invariant-loop-at g l =
    let old = l.initial.heap in
    (l.heap.places.ghost_name ≡ old.places.ghost_name)
    × (room l.heap.places.now ≡ room old.places.now)
    × IsPermutation (items old) (items l.heap)
    × (l.at < length (items l.heap))
    × (Heaped g.K.Cost (items old) (length (items old) - 1) → Raising g.K.Cost (items l.heap) (length (items l.heap)) l.at)

abbrev pub decreases-loop-at : goal.decreases-loop-at
decreases-loop-at g l = l.at
