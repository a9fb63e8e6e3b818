-- A run of the search over a space: what it has stored, what it has kept, and what waits.
use Rattle.std.specs.Prelude.{◌≡◌, ℕ, ◌<◌, ◌≤◌, true, cond, List, [], ◌∷◌, ◌++◌, length, Some, None, Option, ◌==◌}
use Rattle.rows.specs.Tasks.{nth}
use Rattle.cost.specs.Costs.{Arithmetic, NotAfter}
use Rattle.planning.specs.Lists.{In}
use Rattle.planning.specs.Spaces.{Space}

-- the list with the number taken out, where it stands first
abbrev pub without : ℕ → List ℕ → List ℕ
without n [] = []
without n (m ∷ ms) = cond (m == n) ms (m ∷ without n ms)

module _ (a : Arithmetic) (p : Space) where
  -- a row met by the search: what it costs to go on from it to the goal, and the node and the move by which it was met
  pub record Node : Type 0 where
    pub row : p.Row
    pub cost : a.Value
    pub parent : ℕ
    pub move : ℕ

  pub record Run : Type 0 where
    -- the nodes stored, by their numbers
    pub nodes : List Node
    -- the rows kept, in the order of keeping: a row's place is its rank
    pub kept : List p.Row
    -- the numbers of the nodes that wait
    pub waiting : List ℕ
    -- the last cover: the rank most recently answered
    pub cover : Option ℕ

  -- node 0: the goal's row at the cost of nothing
  abbrev pub root : Node
  root = record { row = p.goal; cost = a.nothing; parent = 0; move = 0 }

  -- a run as it is opened: node 0 is stored and waits
  abbrev pub opened : Run
  opened = record { nodes = root ∷ []; kept = []; waiting = 0 ∷ []; cover = None }

  -- the kept row of that rank covers the row
  pub record CoverAt (rows : List p.Row) (row : p.Row) (rank : ℕ) : Type 0 where
    pub by : p.Row
    pub kept : nth rows rank ≡ Some by
    pub over : p.covers by row ≡ true

  -- no kept row covers the row
  abbrev pub Uncovered : List p.Row → p.Row → Type 0
  Uncovered rows row = (rank : ℕ) → CoverAt rows row rank → ⊥

  -- node n waits, and is the least that does: none that waits costs less, and none of a lower number costs the same
  pub record Least (s : Run) (n : ℕ) (x : Node) : Type 0 where
    pub waits : In n s.waiting
    pub node : nth s.nodes n ≡ Some x
    pub first : (m : ℕ) (y : Node) → In m s.waiting → nth s.nodes m ≡ Some y → NotAfter a x.cost y.cost × (NotAfter a y.cost x.cost → n ≤ m)

  -- a rank is answered
  abbrev pub answered : Run → ℕ → Run
  answered s rank = record { nodes = s.nodes; kept = s.kept; waiting = s.waiting; cover = Some rank }

  -- node n waits no more
  abbrev pub taken : Run → ℕ → Run
  taken s n = record { nodes = s.nodes; kept = s.kept; waiting = without n s.waiting; cover = s.cover }

  -- a row is kept, at the next rank
  abbrev pub keeping : Run → p.Row → Run
  keeping s r = record { nodes = s.nodes; kept = s.kept ++ r ∷ []; waiting = s.waiting; cover = s.cover }

  -- a node is stored under the next number, and waits
  abbrev pub storing : Run → Node → Run
  storing s x = record { nodes = s.nodes ++ x ∷ []; kept = s.kept; waiting = s.waiting ++ length s.nodes ∷ []; cover = s.cover }

  -- the node of a row that move m of node n, x, was taken back to: the move's cost is joined to x's
  abbrev pub child : ℕ → Node → ℕ → p.Row → Node
  child n x m r = record { row = r; cost = a.joined (a.priced (p.price m)) x.cost; parent = n; move = m }

  -- the moves from node n along the parents to node 0, whose own is left out
  pub data Reads (nodes : List Node) : ℕ → List ℕ → Type 0 where
    done : Reads nodes 0 []
    link : {n : ℕ} {x : Node} {ns : List ℕ} → 0 < n → nth nodes n ≡ Some x → x.parent < n → x.move < p.moves → Reads nodes x.parent ns → Reads nodes n (x.move ∷ ns)
