-- What the places in use hold.
use Rattle.std.specs.Prelude.{List}
use Rattle.queue.specs.declared.waiting.Waiting.{Waiting}
use Rattle.queue.specs.Places.{front}

abbrev pub items : {X : Type 0} → Waiting X → List X
items w = front w.count w.places.now
