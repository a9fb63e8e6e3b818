-- What a plan of a task is, what it costs, and when it is a cheapest one.
use Rattle.std.specs.Prelude.{◌≡◌, ℕ, true, List, [], ◌∷◌, map, Some, None, Option}
use Rattle.rows.specs.Rows.{Row, Move, covers, applied}
use Rattle.rows.specs.Tasks.{Task, nth}
use Rattle.cost.specs.Costs.{Arithmetic, NotAfter, cost_of}

-- move n of the task applies in a state and leads to the next
pub record Leads (t : Task) (n : ℕ) (s s' : Row) : Type 0 where
  pub move : Move
  pub is : nth t.moves n ≡ Some move
  pub goes : applied move s ≡ Some s'

-- moves, each applicable in turn, from one state to another
pub data Path (t : Task) : Row → List ℕ → Row → Type 0 where
  done : {s : Row} → Path t s [] s
  then : {s s' z : Row} {n : ℕ} {ns : List ℕ} → Leads t n s s' → Path t s' ns z → Path t s (n ∷ ns) z

-- a plan, as the numbers of its moves in the order of doing: they lead from the start to a state with every value that the
-- goal fixes. It may be empty, and a move may recur
abbrev pub Plan : Task → List ℕ → Type 0
Plan t ns = (z : Row) × Path t t.start ns z × (covers t.goal z ≡ true)

-- the price of a move; 0 where there is none
abbrev pub price_of : Option Move → ℕ
price_of None = 0
price_of (Some m) = m.price

abbrev pub price : Task → ℕ → ℕ
price t n = price_of (nth t.moves n)

-- the cost of moves done in this order, without limit
abbrev pub plan_cost : (a : Arithmetic) → Task → List ℕ → a.Value
plan_cost a t ns = cost_of a (map (price t) ns)

-- a plan that no plan comes before, of whatever length
abbrev pub Cheapest : (a : Arithmetic) → Task → List ℕ → Type 0
Cheapest a t ns = Plan t ns × ((ms : List ℕ) → Plan t ms → NotAfter a (plan_cost a t ns) (plan_cost a t ms))
