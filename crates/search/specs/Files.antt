-- The task in a file, as a job sees it.
use Rattle.std.specs.Prelude.{◌≡◌, ℕ, List, Ok, Err}
use Rattle.task.specs.declared.faults.Fault.{Fault}
use Rattle.task.specs.Files.{Bodies, width, move_count, reading}
use Rattle.search.specs.declared.jobs.Shape.{Shape}

-- the reader refuses the file
abbrev pub Refused : List ℕ → Type 0
Refused file = (e : Fault) × (reading file ≡ Err e)

-- the bodies have so many variables and so many moves
abbrev pub Shaped : Shape → Bodies → Type 0
Shaped h b = (width b ≡ h.variables) × (move_count b ≡ h.moves)

-- the reader accepts the file, with these bodies, and they have this shape
pub record Suits (file : List ℕ) (h : Shape) (b : Bodies) : Type 0 where
  pub reads : reading file ≡ Ok b
  pub shaped : Shaped h b

-- the reader refuses the file, or it has another shape
abbrev pub Unsuited : List ℕ → Shape → Type 0
Unsuited file h = (b : Bodies) → Suits file h b → ⊥
