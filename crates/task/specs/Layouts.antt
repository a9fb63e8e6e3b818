-- The layout of five bodies: what the writer writes.
use Rattle.std.specs.Prelude.{◌≡◌, ℕ, ◌+◌, ◌/◌, ◌%◌, cond, List, [], ◌∷◌, ◌++◌, length, take, Ok, Err, Result, nat_lt}
use Rattle.rows.specs.declared.refusals.Refusal.{Refusal}
use Rattle.rows.specs.declared.refusals.Refusal.TheVariants.{ShortBuffer}
use Rattle.rows.specs.Calls.{over}
use Rattle.task.specs.declared.faults.Fault.{Fault}
use Rattle.task.specs.declared.accepted.Accepted.{Accepted}
use Rattle.task.specs.Files.{Bodies, judged, reading}
use Rattle.task.specs.Answers.{refusal_of, held}

-- a 32-bit number, low byte first
abbrev pub coded : ℕ → List ℕ
coded n = n % 256 ∷ n / 256 % 256 ∷ n / 65536 % 256 ∷ n / 16777216 % 256 ∷ []

abbrev pub entry : ℕ → ℕ → List ℕ
entry at n = coded at ++ coded n

-- the entries of bodies of these lengths, from a place on
abbrev pub entries : ℕ → List ℕ → List ℕ
entries at [] = []
entries at (n ∷ ns) = entry at n ++ entries (at + n) ns

abbrev pub contents : Bodies → List ℕ
contents b = entries 40 (length b.values ∷ length b.start ∷ length b.goal ∷ length b.moves ∷ length b.names ∷ [])

-- the bodies side by side
abbrev pub parts : Bodies → List ℕ
parts b = b.values ++ (b.start ++ (b.goal ++ (b.moves ++ b.names)))

abbrev pub layout : Bodies → List ℕ
layout b = contents b ++ parts b

-- how long it is
abbrev pub total : Bodies → ℕ
total b = 40 + length b.values + length b.start + length b.goal + length b.moves + length b.names

-- what writing answers, and what the buffer holds after it
pub record Writing : Type 0 where
  pub answer : Result ℕ Refusal
  pub buffer : List ℕ

abbrev pub laid : Bodies → List ℕ → Writing
laid b out =
    cond (nat_lt (length out) (total b))
    (record { answer = Err ShortBuffer; buffer = out })
    (record { answer = Ok (total b); buffer = over (layout b) out })

abbrev pub laid_if : Result Bodies Fault → List ℕ → Writing
laid_if (Ok b) out = laid b out
laid_if (Err e) out = record { answer = Err (refusal_of e); buffer = out }

-- the checks of the reader on the bodies, then whether the buffer is long enough; later bytes keep what they held
abbrev pub writing : Bodies → List ℕ → Writing
writing b out = laid_if (judged b) out

-- reading what was written gives the bodies back
abbrev pub ReadsBack : Bodies → List ℕ → Result ℕ Refusal → Type 0
ReadsBack b out (Ok n) = reading (take n out) ≡ Ok b
ReadsBack b out (Err e) = Unit {0}

-- writing what was read gives the file back, byte for byte
abbrev pub Restores : List ℕ → Result Accepted Fault → Type 0
Restores file (Ok a) = layout (held a.task) ≡ file
Restores file (Err e) = Unit {0}
