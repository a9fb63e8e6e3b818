-- What the scanned row means as a queue.
use Rattle.std.specs.Prelude.{ℕ, List}
use Rattle.queue.specs.declared.entries.Entry.{Entry}
use Rattle.queue.specs.declared.scanned_row.ScannedRow.{ScannedRow}
use Rattle.queue.specs.Places.{room}
use Rattle.queue.specs.Items.{items}

abbrev pub row_entries : {K : Type 0} → ScannedRow K → List (Entry K)
row_entries q = items q.waiting

abbrev pub row_room : {K : Type 0} → ScannedRow K → ℕ
row_room q = room q.waiting.places.now
