-- The sample line: a gate (0 shut, 1 open) and a load (0 in the pit, 1 on the belt, 2 in the hopper). The gate is shut and the
-- load in the pit at the start, and the load is to be in the hopper.
use Rattle.std.specs.Prelude.{◌≡◌, ℕ, true, false, List, [], ◌∷◌, Some, None, Option}
use Rattle.rows.specs.Rows.{Row, Move, covers, regressed}
use Rattle.rows.specs.Tasks.{Task}

-- undefined
abbrev pub u : ℕ
u = 255

abbrev pub open_gate : Move
open_gate = record { price = 2; condition = 0 ∷ u ∷ []; effect = 1 ∷ u ∷ [] }

abbrev pub tip_load : Move
tip_load = record { price = 5; condition = 1 ∷ 0 ∷ []; effect = u ∷ 1 ∷ [] }

abbrev pub run_belt : Move
run_belt = record { price = 3; condition = u ∷ 1 ∷ []; effect = u ∷ 2 ∷ [] }

-- by hand, at some price
abbrev pub carry_load : ℕ → Move
carry_load p = record { price = p; condition = u ∷ 0 ∷ []; effect = u ∷ 2 ∷ [] }

-- the line with some goal and moves
abbrev pub line : Row → List Move → Task
line goal moves = record { values = 2 ∷ 3 ∷ []; start = 0 ∷ 0 ∷ []; goal = goal; moves = moves }

abbrev pub in_hopper : Row
in_hopper = u ∷ 2 ∷ []

abbrev pub sample : Task
sample = line in_hopper (open_gate ∷ tip_load ∷ run_belt ∷ carry_load 20 ∷ [])

-- a move, a row, and what the row is regressed to
pub record Case : Type 0 where
  pub move : Move
  pub row : Row
  pub result : Option Row

abbrev case : Move → Row → Option Row → Case
case m g r = record { move = m; row = g; result = r }

abbrev pub cases : List Case
cases =
    case run_belt (u ∷ 2 ∷ []) (Some (u ∷ 1 ∷ []))
    ∷ case open_gate (u ∷ 2 ∷ []) None
    ∷ case tip_load (u ∷ 1 ∷ []) (Some (1 ∷ 0 ∷ []))
    -- the condition fixes the gate, so it is not left undefined
    ∷ case open_gate (1 ∷ 0 ∷ []) (Some (0 ∷ 0 ∷ []))
    ∷ case open_gate (u ∷ 0 ∷ []) None
    ∷ []

-- each row of the cases is regressed so
abbrev pub AllRegressed : List Case → Type 0
AllRegressed [] = Unit {0}
AllRegressed (c ∷ cs) = (regressed c.move c.row ≡ c.result) × AllRegressed cs

-- regression on the sample line goes as the cases say, and a load in the pit covers one with the gate open, not the reverse.
-- So opening the gate regresses a covered row and not its coverer
pub record SampleRegressed : Type 0 where
  pub all : AllRegressed cases
  pub covered : covers (u ∷ 0 ∷ []) (1 ∷ 0 ∷ []) ≡ true
  pub not_reverse : covers (1 ∷ 0 ∷ []) (u ∷ 0 ∷ []) ≡ false
