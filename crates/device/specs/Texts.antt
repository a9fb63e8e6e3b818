-- The text of a plan, and a text in a lent buffer.
use Rattle.std.specs.Prelude.{◌≡◌, ℕ, ◌+◌, ◌<◌, ◌≤◌, List, [], ◌∷◌, ◌++◌, length, take, Some, None, Ok, Err, codes, decimal, Option, Result}
use Rattle.std.specs.List.{flat_map}
use Rattle.rows.specs.declared.refusals.Refusal.{Refusal}
use Rattle.rows.specs.declared.refusals.Refusal.TheVariants.{ShortBuffer}
use Rattle.rows.specs.Calls.{over}
use Rattle.task.specs.Files.{Bodies, name_in}

-- what ends a line
abbrev pub newline : List ℕ
newline = 10 ∷ []

-- a name without its place; nothing where there is none
abbrev pub name_text : Option (List ℕ × ℕ) → List ℕ
name_text None = []
name_text (Some p) = p.0

abbrev pub name_of : Bodies → ℕ → List ℕ
name_of b k = name_text (name_in 0 b.names k)

-- the line of the bodies' move k: its name
abbrev pub name_line : Bodies → ℕ → List ℕ
name_line b k = name_of b k ++ newline

-- the lines of moves, in their order
abbrev pub name_lines : Bodies → List ℕ → List ℕ
name_lines b ks = flat_map (name_line b) ks

-- the line of an amount
abbrev pub cost_line : ℕ → List ℕ
cost_line n = codes "cost " ++ (decimal n ++ newline)

-- a plan's amount, and its moves in the order of doing
abbrev pub plan_text : Bodies → ℕ → List ℕ → List ℕ
plan_text b n ks = cost_line n ++ name_lines b ks

-- a text is put into a buffer: its length is told, it is in the first bytes and later ones keep theirs; or it does not fit, and
-- the buffer is as it was
abbrev pub Puts : List ℕ → List ℕ → Result ℕ Refusal → List ℕ → Type 0
Puts text out (Ok n) after = (n ≡ length text) × (n ≤ length out) × (after ≡ over text out)
Puts text out (Err e) after = (e ≡ ShortBuffer) × (length out < length text) × (after ≡ out)

-- a text is put at a place of a buffer: where it ends, and what the buffer then holds
pub record Placed (at : ℕ) (text out : List ℕ) (end : ℕ) (after : List ℕ) : Type 0 where
  pub ends : end ≡ at + length text
  pub holds : after ≡ over (take at out ++ text) out
