-- The space of regression: a task's rows, taken back over its moves from the goal.
use Rattle.std.specs.Prelude.{◌≡◌, ℕ, ◌+◌, ◌*◌, true, List, [], ◌∷◌, length, Some, None, Option}
use Rattle.rows.specs.Rows.{Row, Move, covers, fits, regressed}
use Rattle.rows.specs.Tasks.{Task, nth, Accepted}
use Rattle.planning.specs.Plans.{Leads, Plan, price}
use Rattle.planning.specs.Spaces.{Space, Lawful, Solves}

-- the row regressed over a move, if there is one
abbrev pub over : Option Move → Row → Option Row
over None g = None
over (Some m) g = regressed m g

-- how many rows there are: at each variable a value or the mark
abbrev pub row_count : List ℕ → ℕ
row_count [] = 1
row_count (n ∷ vs) = (n + 1) * row_count vs

abbrev pub regression : Task → Space
regression t = record {
  Row = Row;
  Situation = Row;
  Holds = λ r s. covers r s ≡ true;
  Begins = λ s. s ≡ t.start;
  meets = λ r. covers r t.start;
  moves = length t.moves;
  price = price t;
  Goes = Leads t;
  back = λ n g. over (nth t.moves n) g;
  covers = covers;
  goal = t.goal;
  fits = fits t.values;
  many = row_count t.values;
}

-- regression over an accepted task's rows has the laws, and the plans of its space are the task's plans
pub record Regresses (t : Task) : Type 0 where
  pub lawful : Lawful (regression t)
  pub plans : (ns : List ℕ) → (Plan t ns → Solves (regression t) ns) × (Solves (regression t) ns → Plan t ns)

abbrev pub RegressionIsLawful : Type 0
RegressionIsLawful = (t : Task) → Accepted t → Regresses t
