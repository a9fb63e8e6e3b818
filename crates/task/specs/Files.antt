-- The task file, read as the format has it.
--
-- A file begins with 40 bytes of contents: five entries, each the place and the length in bytes of one of five bodies, as 32-bit
-- numbers with the low byte first. The bodies follow in order and without gaps: the values table, the start, the goal, the moves
-- and their names. A move is a record of a price (32 bits, low byte first), a condition row and an effect row. A name is a length
-- byte and that many bytes.
use Rattle.std.specs.Prelude.{ℕ, zero, suc, ◌+◌, ◌*◌, ◌/◌, ◌%◌, Bool, true, false, cond, not, ◌&&◌, List, [], ◌∷◌, map, length, take, drop, Some, None, Ok, Err, Option, Result, ◌==◌, nat_le, nat_lt, slice_index}
use Rattle.std.specs.List.{range_with_len}
use Rattle.rows.specs.Rows.{Row, Move, all, fits, complete, valued}
use Rattle.rows.specs.Tasks.{Task}
use Rattle.task.specs.declared.faults.Fault.{Fault}
use Rattle.task.specs.declared.faults.Fault.TheVariants.{Stub, Contents, Count, Position, Price, Name}

pub record Bodies : Type 0 where
  pub values : List ℕ
  pub start : Row
  pub goal : Row
  pub moves : List ℕ
  pub names : List ℕ

-- the 32-bit number at a place, low byte first
abbrev pub word : List ℕ → ℕ → ℕ
word bs at = slice_index bs at + slice_index bs (at + 1) * 256 + slice_index bs (at + 2) * 65536 + slice_index bs (at + 3) * 16777216

-- where body i begins and how long it is, by the contents
abbrev pub place : List ℕ → ℕ → ℕ
place file i = word file (8 * i)

abbrev pub size : List ℕ → ℕ → ℕ
size file i = word file (8 * i + 4)

abbrev pub body : List ℕ → ℕ → List ℕ
body file i = take (size file i) (drop (place file i) file)

abbrev pub bodies : List ℕ → Bodies
bodies file = record { values = body file 0; start = body file 1; goal = body file 2; moves = body file 3; names = body file 4 }

-- body i ends at a place
abbrev pub ends : List ℕ → ℕ → ℕ → Bool
ends file i at = place file i + size file i == at

-- the entries tile the file: the first body begins at 40, each other where the one before it ends, and the last ends with the file
abbrev pub tiles : List ℕ → Bool
tiles file =
    (place file 0 == 40)
    && (ends file 0 (place file 1) && (ends file 1 (place file 2) && (ends file 2 (place file 3) && (ends file 3 (place file 4) && ends file 4 (length file)))))

-- V, the number of variables; the bytes of a move's record; M, the number of moves
abbrev pub width : Bodies → ℕ
width b = length b.values

abbrev pub record_size : ℕ → ℕ
record_size v = 4 + 2 * v

abbrev pub move_count : Bodies → ℕ
move_count b = length b.moves / record_size (width b)

-- V is 1 to 64, start and goal have V bytes, and the moves are at most 4,096 whole records
abbrev pub counts : Bodies → Bool
counts b =
    (nat_lt 0 (width b) && nat_le (width b) 64)
    && (length b.start == width b
    && (length b.goal == width b
    && (length b.moves % record_size (width b) == 0 && nat_le (move_count b) 4096)))

-- move k of the moves' bytes, at V variables
abbrev pub move_at : ℕ → List ℕ → ℕ → Move
move_at v bs k = record {
  price = word bs (k * record_size v);
  condition = take v (drop (k * record_size v + 4) bs);
  effect = take v (drop (k * record_size v + 4 + v) bs);
}

-- the test holds of each number below n
abbrev pub each : (ℕ → Bool) → ℕ → Bool
each p zero = true
each p (suc n) = p n && each p n

-- condition and effect fit the values table
abbrev pub rows_fit : List ℕ → Move → Bool
rows_fit values m = fits values m.condition && fits values m.effect

-- each variable has a value, the start is complete, and the goal and each condition and effect fit the values table
abbrev pub positions : Bodies → Bool
positions b =
    valued b.values
    && (complete b.values b.start
    && (fits b.values b.goal && each (λ k. rows_fit b.values (move_at (width b) b.moves k)) (move_count b)))

-- no price is over 1,000,000,000
abbrev pub prices : Bodies → Bool
prices b = each (λ k. nat_le (move_at (width b) b.moves k).price 1000000000) (move_count b)

-- bytes that a name may have: 33 to 126
abbrev pub printable : ℕ → Bool
printable c = nat_le 33 c && nat_le c 126

-- the bytes begin with a lawful name: a length byte of 1 to 40 and that many bytes
abbrev pub begins : List ℕ → Bool
begins [] = false
begins (n ∷ rest) = (nat_le 1 n && nat_le n 40) && (nat_le n (length rest) && all printable (take n rest))

-- the bytes are so many lawful names and nothing else
abbrev pub named : ℕ → List ℕ → Bool
named zero [] = true
named zero (n ∷ rest) = false
named (suc m) [] = false
named (suc m) (n ∷ rest) = begins (n ∷ rest) && named m (drop n rest)

abbrev pub names : Bodies → Bool
names b = named (move_count b) b.names

-- the bodies, or the first ground in order on which they are refused, each looked for in all of them before the next
abbrev pub judged : Bodies → Result Bodies Fault
judged b =
    cond (not (counts b)) (Err Count)
    (cond (not (positions b)) (Err Position)
    (cond (not (prices b)) (Err Price)
    (cond (not (names b)) (Err Name) (Ok b))))

-- what the reader answers
abbrev pub reading : List ℕ → Result Bodies Fault
reading file =
    cond (nat_lt (length file) 40) (Err Stub)
    (cond (not (tiles file)) (Err Contents) (judged (bodies file)))

-- the task that the bodies hold
abbrev pub task_of : Bodies → Task
task_of b = record {
  values = b.values;
  start = b.start;
  goal = b.goal;
  moves = map (move_at (width b) b.moves) (range_with_len 0 (move_count b));
}

-- name k of names that begin at a place, with its own place, that of its first byte
abbrev pub name_in : ℕ → List ℕ → ℕ → Option (List ℕ × ℕ)
name_in at [] k = None
name_in at (n ∷ rest) zero = Some (take n rest, at + 1)
name_in at (n ∷ rest) (suc k) = name_in (at + 1 + n) (drop n rest) k

-- what is answered when a move's name is asked for: the same refusals, then the name with its place, or nothing
abbrev pub name_from : List ℕ → ℕ → Result Bodies Fault → Result (Option (List ℕ × ℕ)) Fault
name_from file k (Ok b) = Ok (name_in (place file 4) b.names k)
name_from file k (Err e) = Err e

abbrev pub naming : List ℕ → ℕ → Result (Option (List ℕ × ℕ)) Fault
naming file k = name_from file k (reading file)
