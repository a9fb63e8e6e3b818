-- What the search in the device's memory tells of a task.
use Rattle.std.specs.Prelude.{ℕ, ◌≤◌, List, length, take, Ok, Err, Result}
use Rattle.rows.specs.declared.refusals.Refusal.{Refusal}
use Rattle.task.specs.Files.{Bodies}
use Rattle.cost.specs.Spends.{Spent}
use Rattle.cost.specs.Limits.{limited}
use Rattle.solver.specs.declared.solutions.Solved.{Solved}
use Rattle.solver.specs.declared.solutions.Solved.TheVariants.{Found, NoPlan, OutOfSpace}
use Rattle.device.specs.Texts.{plan_text}
use Rattle.device.specs.Answers.{no_plan_text, out_of_space_text, Tells}

-- the text that tells of it: of a plan, its cost's amount and the moves in the buffer's first cells. Nothing is refused
abbrev pub Searched : Bodies → List ℕ → Result (Solved Spent) Refusal → Type 0
Searched b moves (Ok (Found k count)) = (count ≤ length moves) × Tells b (plan_text b (limited k.amount k.moves) (take count moves))
Searched b moves (Ok NoPlan) = Tells b no_plan_text
Searched b moves (Ok OutOfSpace) = Tells b out_of_space_text
Searched b moves (Err e) = ⊥
