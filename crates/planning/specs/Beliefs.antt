-- What is believed of regression over rows: three laws, and a belief that an example refutes.
use Rattle.std.specs.Prelude.{◌≡◌, ℕ, Bool, true, false, ◌⊎◌, List, Some}
use Rattle.rows.specs.Rows.{Row, Move, covers, fits, applied, regressed}
use Rattle.rows.specs.Tasks.{MoveFits}
use Rattle.planning.specs.declared.beliefs.Belief.{Belief}
use Rattle.planning.specs.declared.beliefs.Belief.TheVariants.{CoverAgrees, RegressedLeads, LedIsRegressed, CovererRegresses}

-- a cover agrees with every complete row that the covered row agrees with (and with any row: covering is transitive)
abbrev pub CoversAgree : Type 0
CoversAgree = (k g s : Row) → covers k g ≡ true → covers g s ≡ true → covers k s ≡ true

-- if a row regressed over a move agrees with a state, the move applies there and the row agrees with where it leads
abbrev pub RegressedRowsLead : Type 0
RegressedRowsLead =
    (values : List ℕ) (m : Move) (g h s : Row) → MoveFits values m → fits values g ≡ true
    → regressed m g ≡ Some h → covers h s ≡ true → (s' : Row) × (applied m s ≡ Some s') × (covers g s' ≡ true)

-- if a move leads to a state with which a row agrees, the row agrees with the state before already, or it is regressed and
-- the result agrees with the state before
abbrev pub LedRowsAreRegressed : Type 0
LedRowsAreRegressed =
    (values : List ℕ) (m : Move) (g s s' : Row) → MoveFits values m → applied m s ≡ Some s' → covers g s' ≡ true
    → (covers g s ≡ true) ⊎ ((h : Row) × (regressed m g ≡ Some h) × (covers h s ≡ true))

-- each move that regresses a covered row regresses its coverer
abbrev pub CoverersRegress : Type 0
CoverersRegress =
    (values : List ℕ) (m : Move) (k g h : Row) → MoveFits values m → fits values k ≡ true → fits values g ≡ true
    → covers k g ≡ true → regressed m g ≡ Some h → (j : Row) × (regressed m k ≡ Some j)

abbrev pub Claims : Belief → Type 0
Claims CoverAgrees = CoversAgree
Claims RegressedLeads = RegressedRowsLead
Claims LedIsRegressed = LedRowsAreRegressed
Claims CovererRegresses = CoverersRegress

-- which of them are right
abbrev pub right : Belief → Bool
right CoverAgrees = true
right RegressedLeads = true
right LedIsRegressed = true
right CovererRegresses = false

-- a belief that is right is proved, and one that is not is refuted
abbrev pub Judged : Belief → Bool → Type 0
Judged b true = Claims b
Judged b false = Claims b → ⊥

abbrev pub BeliefsAreJudged : Type 0
BeliefsAreJudged = (b : Belief) → Judged b (right b)
