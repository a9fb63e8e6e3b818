-- Which text the device shows for an input, and what it means.
use Rattle.std.specs.Prelude.{◌≡◌, ℕ, ◌+◌, ◌*◌, ◌/◌, ◌<◌, ◌≤◌, min, List, ◌++◌, length, Ok, Err, codes, decimal, Result}
use Rattle.rows.specs.declared.refusals.Refusal.{Refusal}
use Rattle.task.specs.declared.faults.Fault.{Fault}
use Rattle.task.specs.Files.{Bodies, width, move_count, reading, task_of}
use Rattle.cost.specs.Kinds.{spend}
use Rattle.planning.specs.Plans.{Plan, plan_cost, Cheapest}
use Rattle.planning.specs.Regressions.{regression, row_count}
use Rattle.uniform.specs.Runs.{Run, Reads}
use Rattle.uniform.specs.Steps.{found, no_plan, out_of_space, Ends}
use Rattle.device.specs.Texts.{newline, name_lines, plan_text}

-- the longest input that is read, in bytes
abbrev pub longest : ℕ
longest = 32768

-- the capacity of the device at so many variables: it has 1,024 records and 4,096 bytes for rows
abbrev pub capacity_of : ℕ → ℕ
capacity_of v = min 1024 (4096 / v)

-- the lines that tell of no plan
abbrev pub too_long : List ℕ
too_long = codes "too long" ++ newline

abbrev pub refused_file : List ℕ
refused_file = codes "refused 7" ++ newline

abbrev pub no_plan_text : List ℕ
no_plan_text = codes "no plan" ++ newline

abbrev pub out_of_space_text : List ℕ
out_of_space_text = codes "out of space" ++ newline

-- the text that tells how the search for a plan of a task ends, in a run of the device's capacity: the plan read from the node found,
-- that there is none, or that space ran out
pub data Tells (b : Bodies) : List ℕ → Type 0 where
  plan : {i k : ℕ} {r : Run spend (regression (task_of b))} {ms : List ℕ} → Ends spend (regression (task_of b)) (capacity_of (width b)) i (found k) r
      → Reads spend (regression (task_of b)) r.nodes k ms → Tells b (plan_text b (plan_cost spend (task_of b) ms) ms)
  none : {i : ℕ} {r : Run spend (regression (task_of b))} → Ends spend (regression (task_of b)) (capacity_of (width b)) i no_plan r → Tells b no_plan_text
  space : {i : ℕ} {r : Run spend (regression (task_of b))} → Ends spend (regression (task_of b)) (capacity_of (width b)) i out_of_space r → Tells b out_of_space_text

-- the text that is shown for an input: it is too long, whatever it holds; or the reader refuses it; or it is read as a task, and the
-- text tells how the search ends
pub data Shows (input : List ℕ) : List ℕ → Type 0 where
  long : longest < length input → Shows input too_long
  refused : {e : Fault} → length input ≤ longest → reading input ≡ Err e → Shows input refused_file
  searched : {b : Bodies} {text : List ℕ} → length input ≤ longest → reading input ≡ Ok b → Tells b text → Shows input text

-- there is a text for each input, and no more than one
abbrev pub OneText : Type 0
OneText = (input : List ℕ) → (text : List ℕ) × Shows input text × ((other : List ℕ) → Shows input other → other ≡ text)

-- the lines of a cheapest plan of a task, after the word
pub record Cheap (input rest : List ℕ) : Type 0 where
  pub bodies : Bodies
  pub reads : reading input ≡ Ok bodies
  pub moves : List ℕ
  pub cheapest : Cheapest spend (task_of bodies) moves
  pub is : rest ≡ (decimal (plan_cost spend (task_of bodies) moves) ++ newline) ++ name_lines bodies moves

-- a text that begins with the word "cost" shows a cheapest plan of the task and what it costs
abbrev pub CostMeans : Type 0
CostMeans = (input rest : List ℕ) → Shows input (codes "cost " ++ rest) → Cheap input rest

-- the line "no plan" is shown only if there is none
abbrev pub NoneMeans : Type 0
NoneMeans = (input : List ℕ) (b : Bodies) (ms : List ℕ) → Shows input no_plan_text → reading input ≡ Ok b → Plan (task_of b) ms → ⊥

-- the line "out of space" is shown only if the device's capacity is below 1 + P × M: P is the product over the variables of
-- values + 1, and M the number of moves
abbrev pub SpaceMeans : Type 0
SpaceMeans = (input : List ℕ) (b : Bodies) → Shows input out_of_space_text → reading input ≡ Ok b → capacity_of (width b) < 1 + row_count b.values * move_count b

-- the bytes that suffice for every text: at most 1,023 moves, whose names have at most 40 bytes, and an amount of at most 13 digits
abbrev pub most : ℕ
most = 41962

-- a text is refused only if the buffer is shorter than that
abbrev pub Enough : List ℕ → Result ℕ Refusal → Type 0
Enough out (Ok n) = Unit {0}
Enough out (Err e) = length out < most
