-- Rows and moves of a SAS+ task.
--
-- A task has V variables; its values table says how many values each one has, numbered from 0. A row has one byte for each
-- variable: a value, or 255, the mark for undefined. A complete row (a state) has no mark; any other is a partial state.
use Rattle.std.specs.Prelude.{ℕ, Bool, true, false, cond, not, ◌&&◌, ◌||◌, List, [], ◌∷◌, length, Some, None, Option, ◌==◌, nat_le, nat_lt}
use Rattle.std.specs.List.{list_all}

abbrev pub Row : Type 0
Row = List ℕ

-- the byte fixes its variable to a value
abbrev pub fixed : ℕ → Bool
fixed b = not (b == 255)

-- the test holds of each byte
abbrev pub all : (ℕ → Bool) → List ℕ → Bool
all = list_all

-- every variable has at least one value
abbrev pub valued : List ℕ → Bool
valued values = all (λ n. not (n == 0)) values

-- a values table that a task can have: of 1 to 64 variables, each with at least one value
abbrev pub usable : List ℕ → Bool
usable values = (nat_lt 0 (length values) && nat_le (length values) 64) && valued values

-- the two are equally long, and the test holds of the two bytes at each place
abbrev pub both : (ℕ → ℕ → Bool) → List ℕ → List ℕ → Bool
both p [] [] = true
both p [] (b ∷ ys) = false
both p (a ∷ xs) [] = false
both p (a ∷ xs) (b ∷ ys) = p a b && both p xs ys

-- a byte of a row at a variable with n values: a value or the mark; a value
abbrev pub fits_at : ℕ → ℕ → Bool
fits_at n b = not (fixed b) || nat_lt b n

abbrev pub complete_at : ℕ → ℕ → Bool
complete_at n b = fixed b && nat_lt b n

-- the row has a byte for each variable, each a value of it or the mark
abbrev pub fits : List ℕ → Row → Bool
fits values row = both fits_at values row

-- the row has a byte for each variable, each a value of it
abbrev pub complete : List ℕ → Row → Bool
complete values row = both complete_at values row

abbrev pub covers_at : ℕ → ℕ → Bool
covers_at a b = not (fixed a) || a == b

-- s covers t: at each variable, s has the mark or t's byte.
-- A row agrees with a complete row, which has every value that it fixes, exactly if it covers it.
abbrev pub covers : Row → Row → Bool
covers s t = both covers_at s t

-- the effect's value where it fixes one, else the state's
abbrev pub overlaid_at : ℕ → ℕ → ℕ
overlaid_at e b = cond (fixed e) e b

abbrev pub overlaid : Row → Row → Row
overlaid [] s = s
overlaid (e ∷ es) [] = []
overlaid (e ∷ es) (b ∷ s) = overlaid_at e b ∷ overlaid es s

-- where a move with this condition and effect leads from a state: it applies where the state has every value that the
-- condition fixes
abbrev pub led : Row → Row → Row → Option Row
led c e s = cond (covers c s) (Some (overlaid e s)) None

-- the effect fixes a variable to the value that the row fixes there
abbrev pub hits_at : ℕ → ℕ → Bool
hits_at b x = fixed x && x == b

abbrev pub hits : Row → Row → Bool
hits [] e = false
hits (b ∷ g) [] = false
hits (b ∷ g) (x ∷ e) = hits_at b x || hits g e

-- both fix a value, and not the same
abbrev pub differ : ℕ → ℕ → Bool
differ a b = (fixed a && fixed b) && not (a == b)

-- effect x and row b fix different values, or, where the effect leaves the variable undefined, condition y and row b do
abbrev pub clashes : ℕ → ℕ → ℕ → Bool
clashes b y x = cond (fixed x) (differ x b) (differ y b)

abbrev pub clear : Row → Row → Row → Bool
clear [] c e = true
clear (b ∷ g) [] e = true
clear (b ∷ g) (y ∷ c) [] = true
clear (b ∷ g) (y ∷ c) (x ∷ e) = not (clashes b y x) && clear g c e

-- the condition's value where there is one, else the mark where the effect fixes a value, else the row's byte
abbrev pub backed_at : ℕ → ℕ → ℕ → ℕ
backed_at b y x = cond (fixed y) y (cond (fixed x) 255 b)

abbrev pub backed : Row → Row → Row → Row
backed [] c e = []
backed (b ∷ g) [] e = []
backed (b ∷ g) (y ∷ c) [] = []
backed (b ∷ g) (y ∷ c) (x ∷ e) = backed_at b y x ∷ backed g c e

-- a row regressed over a move with this condition and effect: the effect hits it somewhere and clashes with it nowhere
abbrev pub pulled : Row → Row → Row → Option Row
pulled c e g = cond (hits g e && clear g c e) (Some (backed g c e)) None

pub record Move : Type 0 where
  pub price : ℕ
  pub condition : Row
  pub effect : Row

-- where a move leads from a state, or nothing where it does not apply
abbrev pub applied : Move → Row → Option Row
applied m s = led m.condition m.effect s

-- a row regressed over a move, or nothing where it is not
abbrev pub regressed : Move → Row → Option Row
regressed m g = pulled m.condition m.effect g
