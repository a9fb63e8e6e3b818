-- A SAS+ task: how many values each variable has, the state it starts from, the goal, and the moves.
use Rattle.std.specs.Prelude.{◌≡◌, ℕ, zero, suc, ◌≤◌, true, List, [], ◌∷◌, length, Some, None, Option}
use Rattle.rows.specs.Rows.{Row, Move, fits, complete, usable}

pub record Task : Type 0 where
  pub values : List ℕ
  pub start : Row
  pub goal : Row
  pub moves : List Move

-- the element at a place, or nothing past the end
abbrev pub nth : {X : Type 0} → List X → ℕ → Option X
nth [] n = None
nth (x ∷ xs) zero = Some x
nth (x ∷ xs) (suc n) = nth xs n

pub record MoveFits (values : List ℕ) (m : Move) : Type 0 where
  pub price : m.price ≤ 1000000000
  pub condition : fits values m.condition ≡ true
  pub effect : fits values m.effect ≡ true

-- what every task has that the reader accepts: a usable values table, a complete start, a goal that fits, and at most 4,096
-- moves, each at a price of at most 1,000,000,000 and with a condition and an effect that fit
pub record Accepted (t : Task) : Type 0 where
  pub usable : usable t.values ≡ true
  pub start : complete t.values t.start ≡ true
  pub goal : fits t.values t.goal ≡ true
  pub few : length t.moves ≤ 4096
  pub move : (n : ℕ) (m : Move) → nth t.moves n ≡ Some m → MoveFits t.values m
