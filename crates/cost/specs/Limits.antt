-- The limit of a cost that lies in memory: 65,535 moves, and for each an amount of 1,000,000,000, which is the highest price.
use Rattle.std.specs.Prelude.{ℕ, ◌*◌, ◌≤◌, min}

-- the amount and the moves of a cost are within the limit
pub record Within (a n : ℕ) : Type 0 where
  pub amount : a ≤ 1000000000 * n
  pub moves : n ≤ 65535

-- what an amount counts as: at most what so many moves can cost
abbrev pub limited : ℕ → ℕ → ℕ
limited a n = min a (1000000000 * n)
