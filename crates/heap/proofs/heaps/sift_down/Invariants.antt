use Rattle.std.proofs.Common.{◌≡◌, ◌-◌, length}
use Rattle.std.specs.List.Sorted.{IsPermutation}
use Rattle.queue.specs.Places.{room}
use Rattle.queue.specs.Items.{items}
use Rattle.heap.specs.Heaps.{Rooted}
use Rattle.heap.proofs.HeapRows.{Sinking}
use Rattle.heap.proofs.heaps.sift_down.Given as goal

abbrev pub invariant-loop-at : goal.invariant-loop-at
invariant-loop-at g l =
    let old = l.initial.heap in
    (l.heap.places.ghost_name ≡ old.places.ghost_name)
    × (room l.heap.places.now ≡ room old.places.now)
    × IsPermutation (items old) (items l.heap)
    × (Rooted g.K.Cost (items old) (length (items old)) → Sinking g.K.Cost (items l.heap) (length (items l.heap)) l.at)

abbrev pub decreases-loop-at : goal.decreases-loop-at
decreases-loop-at g l = length (items l.heap) - l.at
