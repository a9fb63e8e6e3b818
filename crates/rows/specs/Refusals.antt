-- The numbers and words of the refusals.
use Rattle.std.specs.Prelude.{ℕ, List, codes}
use Rattle.rows.specs.declared.refusals.Refusal.{Refusal}
use Rattle.rows.specs.declared.refusals.Refusal.TheVariants.{Stub, Contents, Count, Position, Price, Name, BadFile, NoSpace, Used, Idle, Torn, ShortBuffer, Full, Misfit, Long, Known}

abbrev pub number : Refusal → ℕ
number Stub = 1
number Contents = 2
number Count = 3
number Position = 4
number Price = 5
number Name = 6
number BadFile = 7
number NoSpace = 8
number Used = 9
number Idle = 10
number Torn = 11
number ShortBuffer = 12
number Full = 13
number Misfit = 14
number Long = 15
number Known = 16

-- as text: the bytes of the word
abbrev pub word : Refusal → List ℕ
word Stub = codes "Stub"
word Contents = codes "Contents"
word Count = codes "Count"
word Position = codes "Position"
word Price = codes "Price"
word Name = codes "Name"
word BadFile = codes "Bad file"
word NoSpace = codes "No space"
word Used = codes "Used"
word Idle = codes "Idle"
word Torn = codes "Torn"
word ShortBuffer = codes "Short buffer"
word Full = codes "Full"
word Misfit = codes "Misfit"
word Long = codes "Long"
word Known = codes "Known"
