-- The runs over the sample line, as a table, and what is claimed of each of its lines.
use Rattle.std.specs.Prelude.{◌≡◌, ℕ, List, [], ◌∷◌, length, Some}
use Rattle.rows.specs.Tasks.{Task, nth}
use Rattle.cost.specs.Costs.{Arithmetic}
use Rattle.cost.specs.Kinds.{spend, peak}
use Rattle.planning.specs.Plans.{Plan, Cheapest}
use Rattle.planning.specs.Samples.{u, open_gate, tip_load, run_belt, carry_load, line, in_hopper, sample}
use Rattle.planning.specs.Regressions.{regression}
use Rattle.uniform.specs.Runs.{Node, Run, Reads}
use Rattle.uniform.specs.Steps.{found, no_plan, out_of_space, Ends}

pub data Kind : Type 0 where
  by_spend by_peak : Kind

abbrev pub arithmetic : Kind → Arithmetic
arithmetic by_spend = spend
arithmetic by_peak = peak

-- a cost as a number
abbrev pub amount : (k : Kind) → (arithmetic k).Value → ℕ
amount by_spend v = v
amount by_peak v = v

-- what an ending tells: a plan and its cost, or that there is none, or that there was no space
pub data Told : Type 0 where
  plan : ℕ → List ℕ → Told
  no_plan_told : Told
  no_space_told : Told

pub record Line : Type 0 where
  pub kind : Kind
  pub task : Task
  pub capacity : ℕ
  -- the step in which the run ends, what it tells, and the nodes that it has stored
  pub steps : ℕ
  pub told : Told
  pub nodes : ℕ

abbrev row : Kind → Task → ℕ → ℕ → Told → ℕ → Line
row k t c s e n = record { kind = k; task = t; capacity = c; steps = s; told = e; nodes = n }

abbrev pub table : List Line
table =
    row by_spend sample 65535 4 (plan 10 (0 ∷ 1 ∷ 2 ∷ [])) 5
    ∷ row by_spend sample 5 4 (plan 10 (0 ∷ 1 ∷ 2 ∷ [])) 5
    ∷ row by_spend sample 4 3 no_space_told 4
    ∷ row by_peak sample 65535 4 (plan 5 (0 ∷ 1 ∷ 2 ∷ [])) 5
    -- two plans cost 10: carrying is stored first
    ∷ row by_spend (line in_hopper (open_gate ∷ tip_load ∷ run_belt ∷ carry_load 10 ∷ [])) 65535 4 (plan 10 (3 ∷ [])) 5
    ∷ row by_spend (line in_hopper (open_gate ∷ tip_load ∷ [])) 65535 2 no_plan_told 1
    ∷ row by_spend (line (u ∷ u ∷ []) (open_gate ∷ tip_load ∷ run_belt ∷ carry_load 20 ∷ [])) 65535 1 (plan 0 []) 1
    ∷ []

module _ (k : Kind) (t : Task) (cap steps : ℕ) where
  -- the run that ended so, and what it means for the task
  abbrev pub Tells : Told → Run (arithmetic k) (regression t) → Type 0
  Tells (plan cost ns) s = (n : ℕ) × (x : Node (arithmetic k) (regression t)) × Ends (arithmetic k) (regression t) cap steps (found n) s
      × Reads (arithmetic k) (regression t) s.nodes n ns × (nth s.nodes n ≡ Some x) × (amount k x.cost ≡ cost) × Cheapest (arithmetic k) t ns
  Tells no_plan_told s = Ends (arithmetic k) (regression t) cap steps no_plan s × ((ns : List ℕ) → Plan t ns → ⊥)
  Tells no_space_told s = Ends (arithmetic k) (regression t) cap steps out_of_space s

-- the run of a line's task, kind and capacity ends as the line says
abbrev pub Shown : Line → Type 0
Shown l = (s : Run (arithmetic l.kind) (regression l.task)) × (length s.nodes ≡ l.nodes) × Tells l.kind l.task l.capacity l.steps l.told s

abbrev pub SampleRuns : Type 0
SampleRuns = (k : ℕ) (l : Line) → nth table k ≡ Some l → Shown l
