-- The description of a task file, for people: a line for each variable and each move, or why the file is refused.
use Rattle.std.specs.Prelude.{ℕ, zero, suc, ◌+◌, cond, List, [], ◌∷◌, ◌++◌, length, Some, None, Ok, Err, codes, decimal, Option, Result, nat_lt}
use Rattle.rows.specs.Rows.{Row, Move, fixed, regressed}
use Rattle.rows.specs.Refusals.{number, word}
use Rattle.task.specs.declared.faults.Fault.{Fault}
use Rattle.task.specs.Files.{Bodies, width, move_count, move_at, name_in, reading}
use Rattle.task.specs.Answers.{refusal_of}

-- what ends a line
abbrev pub newline : List ℕ
newline = 10 ∷ []

-- a byte of a row
abbrev pub value : ℕ → List ℕ
value b = cond (fixed b) (decimal b) (codes "undefined")

-- variable v with n values, its start and its goal
abbrev pub variable_line : ℕ → ℕ → ℕ → ℕ → List ℕ
variable_line v n start goal =
    codes "variable " ++ (decimal v ++ (codes ": values " ++ (decimal n ++ (codes ", start " ++ (decimal start ++ (codes ", goal " ++ (value goal ++ newline)))))))

-- the variables from v on
abbrev pub variable_lines : ℕ → List ℕ → Row → Row → List ℕ
variable_lines v [] ss gs = []
variable_lines v (n ∷ ns) [] gs = []
variable_lines v (n ∷ ns) (s ∷ ss) [] = []
variable_lines v (n ∷ ns) (s ∷ ss) (g ∷ gs) = variable_line v n s g ++ variable_lines (v + 1) ns ss gs

-- the values that a row fixes, from variable v on, each as a blank, the variable, an equals sign and the value
abbrev pub setting : ℕ → ℕ → List ℕ
setting v b = cond (fixed b) (codes " " ++ (decimal v ++ (codes "=" ++ decimal b))) []

abbrev pub settings : ℕ → Row → List ℕ
settings v [] = []
settings v (b ∷ bs) = setting v b ++ settings (v + 1) bs

-- the goal before a move, if it is regressed over it
abbrev pub goal_text : Option Row → List ℕ
goal_text None = codes "not regressed"
goal_text (Some row) = codes "regressed:" ++ settings 0 row

-- what a move needs and sets, and the goal before it
abbrev pub rows_text : List ℕ → List ℕ → List ℕ → List ℕ
rows_text needs sets before = codes "needs" ++ (needs ++ (codes ", sets" ++ (sets ++ (codes ", goal " ++ before))))

-- a move's number, its name and price, and that
abbrev pub move_text : ℕ → List ℕ → ℕ → List ℕ → List ℕ
move_text k name price rows = codes "move " ++ (decimal k ++ (codes " " ++ (name ++ (codes ": price " ++ (decimal price ++ (codes ", " ++ (rows ++ newline)))))))

abbrev pub move_line : ℕ → List ℕ → Move → Row → List ℕ
move_line k name m goal =
    move_text k name m.price (rows_text (settings 0 m.condition) (settings 0 m.effect) (goal_text (regressed m goal)))

abbrev pub name_text : Option (List ℕ × ℕ) → List ℕ
name_text None = []
name_text (Some p) = p.0

-- the line of the bodies' move k
abbrev pub step_line : Bodies → ℕ → List ℕ
step_line b k = move_line k (name_text (name_in 0 b.names k)) (move_at (width b) b.moves k) b.goal

-- so many moves from k on
abbrev pub step_lines : Bodies → ℕ → ℕ → List ℕ
step_lines b k zero = []
step_lines b k (suc n) = step_line b k ++ step_lines b (k + 1) n

abbrev pub task_text : Bodies → List ℕ
task_text b = variable_lines 0 b.values b.start b.goal ++ step_lines b 0 (move_count b)

abbrev pub refused_text : ℕ → List ℕ → List ℕ
refused_text n text = codes "refused " ++ (decimal n ++ (codes " " ++ (text ++ newline)))

abbrev pub refused_line : Fault → List ℕ
refused_line e = refused_text (number (refusal_of e)) (word (refusal_of e))

abbrev pub answered : Result Bodies Fault → List ℕ
answered (Ok b) = task_text b
answered (Err e) = refused_line e

-- what is shown of an input; more than 32,768 bytes are not read
abbrev pub described : List ℕ → List ℕ
described input = cond (nat_lt 32768 (length input)) (codes "too long" ++ newline) (answered (reading input))
