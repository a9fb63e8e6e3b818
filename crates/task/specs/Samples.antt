-- The sample line, as it stands in a task file.
--
-- Variables: the gate (0 shut, 1 open) and the load (0 in the pit, 1 on the belt, 2 in the hopper). It starts with the gate shut
-- and the load in the pit; the load is wanted in the hopper. Moves, each with its price, what it needs and what it sets:
-- open (2; gate shut; gate open), tip (5; gate open and load in the pit; load on the belt), run (3; load on the belt; load in the
-- hopper), carry (20; load in the pit; load in the hopper).
use Rattle.std.specs.Prelude.{◌≡◌, ℕ, List, [], ◌∷◌, ◌++◌, length, Ok, codes}
use Rattle.rows.specs.Rows.{Move}
use Rattle.task.specs.Files.{Bodies, place, judged, task_of}
use Rattle.task.specs.Layouts.{coded, layout}

-- the record of a move
abbrev pub move_bytes : Move → List ℕ
move_bytes m = coded m.price ++ (m.condition ++ m.effect)

abbrev pub all_bytes : List Move → List ℕ
all_bytes [] = []
all_bytes (m ∷ ms) = move_bytes m ++ all_bytes ms

abbrev pub opening : Move
opening = record { price = 2; condition = 0 ∷ 255 ∷ []; effect = 1 ∷ 255 ∷ [] }

abbrev pub tip : Move
tip = record { price = 5; condition = 1 ∷ 0 ∷ []; effect = 255 ∷ 1 ∷ [] }

abbrev pub run : Move
run = record { price = 3; condition = 255 ∷ 1 ∷ []; effect = 255 ∷ 2 ∷ [] }

abbrev pub carry : Move
carry = record { price = 20; condition = 255 ∷ 0 ∷ []; effect = 255 ∷ 2 ∷ [] }

abbrev pub sample : Bodies
sample = record {
  values = 2 ∷ 3 ∷ [];
  start = 0 ∷ 0 ∷ [];
  goal = 255 ∷ 2 ∷ [];
  moves = all_bytes (opening ∷ tip ∷ run ∷ carry ∷ []);
  names = 4 ∷ codes "open" ++ (3 ∷ codes "tip" ++ (3 ∷ codes "run" ++ (5 ∷ codes "carry")));
}

-- it is sound, its file has 97 bytes, its bodies begin at 40, 42, 44, 46 and 78, and it holds these four moves
pub record SampleFile : Type 0 where
  pub sound : judged sample ≡ Ok sample
  pub long : length (layout sample) ≡ 97
  pub places : (place (layout sample) 0 ≡ 40) × (place (layout sample) 1 ≡ 42) × (place (layout sample) 2 ≡ 44) × (place (layout sample) 3 ≡ 46) × (place (layout sample) 4 ≡ 78)
  pub moves : (task_of sample).moves ≡ opening ∷ tip ∷ run ∷ carry ∷ []
