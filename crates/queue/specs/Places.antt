-- A queue's entries as the first places of a row of memory.
use Rattle.std.specs.Prelude.{◌≡◌, ℕ, ◌≤◌, min, List, length, take}
use Rattle.std.proofs.Common.{◌∙◌, arith, length-take}

-- how many of so many places are in use at a count: a queue has at most 65,535
abbrev pub used : ℕ → ℕ → ℕ
used count places = min (min count places) 65535

-- the entries of a row at a count
abbrev pub front : {X : Type 0} → ℕ → List X → List X
front count xs = take (used count (length xs)) xs

abbrev pub room : {X : Type 0} → List X → ℕ
room xs = min (length xs) 65535

pub length_front : {X : Type 0} (count : ℕ) (xs : List X) → length (front count xs) ≡ used count (length xs)
length_front count xs = length-take (used count (length xs)) xs ∙ omega arith

pub front_fits : {X : Type 0} (count : ℕ) (xs : List X) → (length (front count xs) ≤ room xs) × (room xs ≤ 65535)
front_fits count xs = (omega (arith, length_front count xs), omega arith)
