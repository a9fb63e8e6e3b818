-- What the calls on task files answer.
use Rattle.std.specs.Prelude.{◌≡◌, ℕ, ◌<◌, ◌≤◌, List, ◌∷◌, ◌++◌, length, take, drop, Some, None, Ok, Err, Option, Result}
use Rattle.std.specs.Borrow.{Bor}
use Rattle.rows.specs.declared.refusals.Refusal.{Refusal}
use Rattle.rows.specs.declared.refusals.Refusal.TheVariants as refusal
use Rattle.task.specs.declared.faults.Fault.{Fault}
use Rattle.task.specs.declared.faults.Fault.TheVariants.{Stub, Contents, Count, Position, Price, Name}
use Rattle.task.specs.declared.tables.Task.{Task}
use Rattle.task.specs.declared.tables.Step.{Step}
use Rattle.rows.specs.Rows.{Move}
use Rattle.task.specs.Files.{Bodies, width, move_count, move_at, judged, name_in, naming}

abbrev pub refusal_of : Fault → Refusal
refusal_of Stub = refusal.Stub
refusal_of Contents = refusal.Contents
refusal_of Count = refusal.Count
refusal_of Position = refusal.Position
refusal_of Price = refusal.Price
refusal_of Name = refusal.Name

-- what the five slices hold
abbrev pub held : Task → Bodies
held t = record { values = t.values.now; start = t.start.now; goal = t.goal.now; moves = t.moves.now; names = t.names.now }

abbrev pub move_of : Step → Move
move_of s = record { price = s.price; condition = s.operator.condition.now; effect = s.operator.effect.now }

abbrev pub Steps : Bodies → ℕ → Option Step → Type 0
Steps b k None = move_count b ≤ k
Steps b k (Some s) = (k < move_count b) × (move_of s ≡ move_at (width b) b.moves k)

abbrev pub Checks : Bodies → Result Unit Fault → Type 0
Checks b (Ok o) = judged b ≡ Ok b
Checks b (Err e) = judged b ≡ Err e

-- the first of some names, which stands behind its length, and what follows it; or that no whole name begins
abbrev pub FirstName : List ℕ → Option (Bor (List ℕ) × Bor (List ℕ)) → Type 0
FirstName bs (Some p) = bs ≡ length p.0.now ∷ (p.0.now ++ p.1.now)
FirstName bs None = (name after : List ℕ) → bs ≡ length name ∷ (name ++ after) → ⊥

-- a name that is looked up among names that begin at a place
abbrev pub LooksUp : ℕ → List ℕ → ℕ → Option (Bor (List ℕ) × ℕ) → Type 0
LooksUp base bs k None = name_in base bs k ≡ None
LooksUp base bs k (Some x) = name_in base bs k ≡ Some (x.0.now, x.1)

abbrev pub NamesMove : List ℕ → ℕ → Result (Option (Bor (List ℕ) × ℕ)) Fault → Type 0
NamesMove file k (Ok None) = naming file k ≡ Ok None
NamesMove file k (Ok (Some x)) = naming file k ≡ Ok (Some (x.0.now, x.1))
NamesMove file k (Err e) = naming file k ≡ Err e

-- a name that is handed out is that part of the file, at its place
abbrev pub LiesInFile : List ℕ → Result (Option (Bor (List ℕ) × ℕ)) Fault → Type 0
LiesInFile file (Ok None) = Unit {0}
LiesInFile file (Ok (Some x)) = x.0.now ≡ take (length x.0.now) (drop x.1 file)
LiesInFile file (Err e) = Unit {0}
