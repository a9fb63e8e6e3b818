-- What an accepted task file is, in the format's own words: the layout of five sound bodies.
use Rattle.std.specs.Prelude.{◌≡◌, ℕ, ◌+◌, ◌*◌, ◌<◌, ◌≤◌, List, [], ◌∷◌, ◌++◌, length, drop, Ok, Err, Result, ◌≢◌, slice_index}
use Rattle.std.specs.List.{AllByRecursion}
use Rattle.rows.specs.Rows.{Row, Move}
use Rattle.task.specs.declared.faults.Fault.{Fault}
use Rattle.task.specs.declared.accepted.Accepted.{Accepted}
use Rattle.task.specs.Files.{Bodies, place, size, width, record_size, move_at, reading}
use Rattle.task.specs.Answers.{held}

-- entry i of the contents has this place and this length
abbrev pub Entry : List ℕ → ℕ → ℕ → ℕ → Type 0
Entry file i at n = (place file i ≡ at) × (size file i ≡ n)

-- the file is the layout of the bodies: after 40 bytes of contents they stand side by side to the end, and the contents
-- have the place and the length of each
pub record Tiles (file : List ℕ) (b : Bodies) : Type 0 where
  pub long : 40 ≤ length file
  pub parts : drop 40 file ≡ b.values ++ (b.start ++ (b.goal ++ (b.moves ++ b.names)))
  pub values : Entry file 0 40 (length b.values)
  pub start : Entry file 1 (40 + length b.values) (length b.start)
  pub goal : Entry file 2 (40 + length b.values + length b.start) (length b.goal)
  pub moves : Entry file 3 (40 + length b.values + length b.start + length b.goal) (length b.moves)
  pub names : Entry file 4 (40 + length b.values + length b.start + length b.goal + length b.moves) (length b.names)

-- a byte for each variable, and each that is not the mark is a value of its variable
pub record Allowed (values : List ℕ) (row : Row) : Type 0 where
  pub long : length row ≡ length values
  pub value : (v : ℕ) → v < length values → (slice_index row v ≢ 255) → slice_index row v < slice_index values v

-- the same, with no mark
pub record Whole (values : List ℕ) (row : Row) : Type 0 where
  pub allowed : Allowed values row
  pub defined : (v : ℕ) → v < length values → slice_index row v ≢ 255

pub record Lawful (values : List ℕ) (m : Move) : Type 0 where
  pub price : m.price ≤ 1000000000
  pub condition : Allowed values m.condition
  pub effect : Allowed values m.effect

-- a name of 1 to 40 bytes from 33 to 126
pub record Spelling (name : List ℕ) : Type 0 where
  pub some : 1 ≤ length name
  pub short : length name ≤ 40
  pub printable : AllByRecursion (λ c. (33 ≤ c) × (c ≤ 126)) name

-- names as they lie in the file, each after its length
abbrev pub spelled : List (List ℕ) → List ℕ
spelled [] = []
spelled (n ∷ ns) = length n ∷ (n ++ spelled ns)

-- so many moves, each lawful, and as many lawful names
pub record Sound (b : Bodies) : Type 0 where
  pub some : 1 ≤ width b
  pub few : width b ≤ 64
  pub valued : (v : ℕ) → v < width b → 1 ≤ slice_index b.values v
  pub start : Whole b.values b.start
  pub goal : Allowed b.values b.goal
  pub count : ℕ
  pub not_many : count ≤ 4096
  pub records : length b.moves ≡ count * record_size (width b)
  pub moves : (k : ℕ) → k < count → Lawful b.values (move_at (width b) b.moves k)
  pub spellings : List (List ℕ)
  pub named : b.names ≡ spelled spellings
  pub each_named : length spellings ≡ count
  pub spelling : AllByRecursion Spelling spellings

-- what the reader answers
abbrev pub Reads : List ℕ → Result Accepted Fault → Type 0
Reads file (Ok a) = reading file ≡ Ok (held a.task)
Reads file (Err e) = reading file ≡ Err e

-- a file is accepted exactly if it is the layout of five sound bodies, which are then the ones that are handed out
abbrev pub Accepts : List ℕ → Result Accepted Fault → Type 0
Accepts file (Ok a) = Tiles file (held a.task) × Sound (held a.task)
Accepts file (Err e) = (b : Bodies) → Tiles file b → Sound b → ⊥
