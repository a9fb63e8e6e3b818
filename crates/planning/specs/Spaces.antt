-- What a search needs to know of what it searches: a space of rows, and the laws by which the search is right.
--
-- A row describes the situations in which it holds. The search begins from the goal's row and goes back over moves, until
-- a row holds where a plan may begin.
use Rattle.std.specs.Prelude.{◌≡◌, ℕ, ◌<◌, ◌≤◌, Bool, true, ◌⊎◌, List, [], ◌∷◌, map, length, Some, Option}
use Rattle.cost.specs.Costs.{Arithmetic, NotAfter, cost_of}
use Rattle.planning.specs.Lists.{In, Distinct}

pub record Space : Type 1 where
  pub Row : Type 0
  pub Situation : Type 0
  pub Holds : Row → Situation → Type 0
  -- the situations where a plan may begin, and the test whether a row holds in one of them
  pub Begins : Situation → Type 0
  pub meets : Row → Bool
  -- moves are numbered from 0; a move leads from one situation to the next
  pub moves : ℕ
  pub price : ℕ → ℕ
  pub Goes : ℕ → Situation → Situation → Type 0
  -- a row taken back over a move, or nothing
  pub back : ℕ → Row → Option Row
  pub covers : Row → Row → Bool
  pub goal : Row
  -- the rows that the search can meet, and how many distinct ones there can be
  pub fits : Row → Bool
  pub many : ℕ

pub record Lawful (p : Space) : Type 0 where
  -- the test tells whether the row holds where a plan may begin
  pub met : (r : p.Row) → p.meets r ≡ true → (s : p.Situation) × p.Begins s × p.Holds r s
  pub meets_all : (r : p.Row) (s : p.Situation) → p.Begins s → p.Holds r s → p.meets r ≡ true
  -- sound: where the row taken back holds, the move leads to where the row itself does
  pub sound : (n : ℕ) (g h : p.Row) (s : p.Situation) → p.fits g ≡ true → p.back n g ≡ Some h → p.Holds h s
      → (s' : p.Situation) × p.Goes n s s' × p.Holds g s'
  -- complete: where a move leads to where a row holds, the row holds before it already, or is taken back and the result holds
  pub complete : (n : ℕ) (g : p.Row) (s s' : p.Situation) → p.Goes n s s' → p.Holds g s'
      → p.Holds g s ⊎ ((h : p.Row) × (p.back n g ≡ Some h) × p.Holds h s)
  -- a cover holds wherever the covered row does; each row covers itself, and covering is transitive
  pub wider : (k g : p.Row) (s : p.Situation) → p.covers k g ≡ true → p.Holds g s → p.Holds k s
  pub itself : (r : p.Row) → p.covers r r ≡ true
  pub through : (k g h : p.Row) → p.covers k g ≡ true → p.covers g h ≡ true → p.covers k h ≡ true
  -- only the moves below the number of moves take rows back
  pub below : (n : ℕ) (g h : p.Row) → p.back n g ≡ Some h → n < p.moves
  -- the goal fits, and what fits is taken back to what fits; distinct rows that fit are no more than so many
  pub goal_fits : p.fits p.goal ≡ true
  pub back_fits : (n : ℕ) (g h : p.Row) → p.fits g ≡ true → p.back n g ≡ Some h → p.fits h ≡ true
  pub few : (rs : List p.Row) → Distinct rs → ((r : p.Row) → In r rs → p.fits r ≡ true) → length rs ≤ p.many

module _ (p : Space) where
  -- moves that lead from a situation to one where the goal holds
  pub data Route : p.Situation → List ℕ → Type 0 where
    there : {s : p.Situation} → p.Holds p.goal s → Route s []
    then : {n : ℕ} {ns : List ℕ} {s s' : p.Situation} → p.Goes n s s' → Route s' ns → Route s (n ∷ ns)

  -- a plan of the space: such moves from where a plan may begin
  abbrev pub Solves : List ℕ → Type 0
  Solves ns = (s : p.Situation) × p.Begins s × Route s ns

  -- what the moves of these numbers cost, done in this order
  abbrev pub worth : (a : Arithmetic) → List ℕ → a.Value
  worth a ns = cost_of a (map p.price ns)

  -- a plan of the space that none comes before, of whatever length
  abbrev pub Best : Arithmetic → List ℕ → Type 0
  Best a ns = Solves ns × ((ms : List ℕ) → Solves ms → NotAfter a (worth a ns) (worth a ms))
