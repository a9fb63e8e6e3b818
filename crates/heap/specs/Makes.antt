-- What the heap means as a queue.
use Rattle.std.specs.Prelude.{ℕ, List}
use Rattle.queue.specs.declared.entries.Entry.{Entry}
use Rattle.queue.specs.Places.{room}
use Rattle.queue.specs.Items.{items}
use Rattle.heap.specs.declared.heaps.Heap.{Heap}

abbrev pub heap_entries : {K : Type 0} → Heap K → List (Entry K)
heap_entries q = items q.waiting

abbrev pub heap_room : {K : Type 0} → Heap K → ℕ
heap_room q = room q.waiting.places.now
