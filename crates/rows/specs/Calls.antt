-- What the calls on rows answer, for any bytes. Each takes a values table and refuses Misfit first.
use Rattle.std.specs.Prelude.{ℕ, Bool, true, false, cond, ◌&&◌, List, ◌++◌, length, drop, Some, None, Ok, Err, Option, Result, ◌==◌, nat_lt}
use Rattle.rows.specs.declared.refusals.Refusal.{Refusal}
use Rattle.rows.specs.declared.refusals.Refusal.TheVariants.{Misfit, ShortBuffer}
use Rattle.rows.specs.Rows.{Row, fits, complete, covers, led, pulled}

-- whether a row agrees with a state
abbrev pub agreeing : List ℕ → Row → Row → Result Bool Refusal
agreeing values row state = cond (fits values row && complete values state) (Ok (covers row state)) (Err Misfit)

-- whether s covers t
abbrev pub covering : List ℕ → Row → Row → Result Bool Refusal
covering values s t = cond (fits values s && fits values t) (Ok (covers s t)) (Err Misfit)

-- a row over the first bytes of a buffer; later bytes keep theirs
abbrev pub over : Row → List ℕ → List ℕ
over row out = row ++ drop (length row) out

-- what a call that may write a row answers, and what the buffer holds after it
pub record Outcome : Type 0 where
  pub answer : Result Bool Refusal
  pub buffer : List ℕ

-- no row: the answer is no, and nothing is written. A row: it is written if the buffer is long enough
abbrev pub written : Option Row → List ℕ → Outcome
written None out = record { answer = Ok false; buffer = out }
written (Some row) out =
    cond (nat_lt (length out) (length row))
    (record { answer = Err ShortBuffer; buffer = out })
    (record { answer = Ok true; buffer = over row out })

abbrev pub misfit : List ℕ → Outcome
misfit out = record { answer = Err Misfit; buffer = out }

-- a move applied in a state
abbrev pub applying : List ℕ → Row → Row → Row → List ℕ → Outcome
applying values c e state out =
    cond (fits values c && (fits values e && complete values state)) (written (led c e state) out) (misfit out)

-- a row regressed over a move
abbrev pub regressing : List ℕ → Row → Row → Row → List ℕ → Outcome
regressing values c e row out =
    cond (fits values c && (fits values e && fits values row)) (written (pulled c e row) out) (misfit out)

-- The inner calls take rows that are known to fit, all of one length, and a buffer of that length.
pub record Placing : Type 0 where
  pub answer : Bool
  pub buffer : List ℕ

abbrev pub placed : Option Row → List ℕ → Placing
placed None out = record { answer = false; buffer = out }
placed (Some row) out = record { answer = true; buffer = row }

-- rows of other lengths are left alone
abbrev pub even : Row → Row → Row → List ℕ → Bool
even c e g out = length c == length g && (length e == length g && length out == length g)

abbrev pub placing : Bool → Option Row → List ℕ → Placing
placing t row out = cond t (placed row out) (record { answer = false; buffer = out })
