-- What is promised of every run, over any arithmetic and any lawful space.
use Rattle.std.specs.Prelude.{◌≡◌, ℕ, ◌+◌, ◌*◌, ◌<◌, ◌≤◌, true, List, length, Some, ◌≢◌}
use Rattle.rows.specs.Tasks.{nth}
use Rattle.cost.specs.Costs.{Arithmetic}
use Rattle.planning.specs.Lists.{In, Distinct}
use Rattle.planning.specs.Spaces.{Space, Solves, worth, Best}
use Rattle.uniform.specs.Runs.{Node, Run, Reads}
use Rattle.uniform.specs.Steps.{Outcome, found, no_plan, out_of_space, Step, After, Ends}

-- P × M: the number of distinct rows that fit times that of moves
abbrev pub most : Space → ℕ
most p = p.many * p.moves

-- the two hold the same nodes and kept rows, and the same nodes wait; the last covers may differ
pub record Alike {a : Arithmetic} {p : Space} (s t : Run a p) : Type 0 where
  pub nodes : s.nodes ≡ t.nodes
  pub kept : s.kept ≡ t.kept
  pub waiting : s.waiting ≡ t.waiting

module _ (a : Arithmetic) (p : Space) where
  -- the moves read from node n are a plan that none comes before, and the node's cost is the plan's
  pub record ReadsBest (nodes : List (Node a p)) (n : ℕ) : Type 0 where
    pub moves : List ℕ
    pub reads : Reads a p nodes n moves
    pub only : (ms : List ℕ) → Reads a p nodes n ms → ms ≡ moves
    pub best : Best p a moves
    pub node : Node a p
    pub there : nth nodes n ≡ Some node
    pub cost : node.cost ≡ worth p a moves

  -- the moves read from a found node are a cheapest plan
  abbrev pub FoundIsCheapest : Type 0
  FoundIsCheapest = (cap i n : ℕ) (t : Run a p) → Ends a p cap i (found n) t → ReadsBest t.nodes n

  -- "no plan" is told only if there is none
  abbrev pub NoPlanIsNone : Type 0
  NoPlanIsNone = (cap i : ℕ) (t : Run a p) (ns : List ℕ) → Ends a p cap i no_plan t → Solves p ns → ⊥

  -- what a run that goes on holds: no more nodes than its capacity, and no more kept rows and waiting nodes than nodes, so that
  -- neither kept rows nor waiting nodes ever need more space than the nodes; every node that waits is stored, every stored row
  -- fits, and the kept rows are distinct
  pub record Orderly (cap : ℕ) (s : Run a p) : Type 0 where
    pub within : length s.nodes ≤ cap
    pub counted : length s.kept + length s.waiting ≤ length s.nodes
    pub stored : (n : ℕ) → In n s.waiting → n < length s.nodes
    pub fit : (n : ℕ) (x : Node a p) → nth s.nodes n ≡ Some x → p.fits x.row ≡ true
    pub apart : Distinct s.kept

  abbrev pub RunsAreOrderly : Type 0
  RunsAreOrderly = (cap i : ℕ) (s : Run a p) → After a p cap i s → Orderly cap s

  -- there are at most 1 + P × M nodes; with space for so many a run never is out of space; and it ends by step 2 + P × M
  pub record FewNodes : Type 0 where
    pub nodes : (cap i : ℕ) (s : Run a p) → After a p cap i s → length s.nodes ≤ 1 + most p
    pub nodes_at_end : (cap i : ℕ) (o : Outcome) (t : Run a p) → Ends a p cap i o t → length t.nodes ≤ 1 + most p
    pub space : (cap i : ℕ) (t : Run a p) → 1 + most p ≤ cap → Ends a p cap i out_of_space t → ⊥
    pub steps : (cap i : ℕ) (s : Run a p) → After a p cap i s → i < 2 + most p
    pub steps_at_end : (cap i : ℕ) (o : Outcome) (t : Run a p) → Ends a p cap i o t → i ≤ 2 + most p

  -- a run of this capacity ends by a step: while it goes on there is a next step, it is never still going on after that last
  -- one, and so there is an ending
  pub record EndsBy (cap last : ℕ) : Type 0 where
    pub next : (i : ℕ) (s : Run a p) → After a p cap i s → (o : Outcome) × (t : Run a p) × Step a p cap s o t
    pub some : 0 < cap → (i : ℕ) × (o : Outcome) × (t : Run a p) × Ends a p cap i o t
    pub still : (i : ℕ) (s : Run a p) → After a p cap i s → i < last
    pub at_end : (i : ℕ) (o : Outcome) (t : Run a p) → Ends a p cap i o t → i ≤ last

  -- the cost of a stored node joins the moves read from it, so many at most; and fewer than the capacity, so that with a
  -- capacity of at most 65,535 one more never makes more than 65,535
  abbrev pub JoinsFew : ℕ → ℕ → Type 0
  JoinsFew n joins = (cap i : ℕ) (s : Run a p) (x : Node a p) → After a p cap i s → nth s.nodes n ≡ Some x
      → (ns : List ℕ) × Reads a p s.nodes n ns × (x.cost ≡ worth p a ns) × (length ns ≤ joins) × (length ns < cap)

  -- runs of capacities c ≤ d go alike until the first ends: that of c, and where it does not run out of space, that of d ends
  -- alike in the same step. So what c finds, d finds, with the same nodes, and so the same moves
  pub record GoAlike (c d : ℕ) : Type 0 where
    pub still : (i : ℕ) (s t : Run a p) → After a p c i s → After a p d i t → Alike s t
    pub longer : (i j : ℕ) (o q : Outcome) (s t : Run a p) → Ends a p c i o s → Ends a p d j q t → i ≤ j
    pub at_end : (i j : ℕ) (o q : Outcome) (s t : Run a p) → Ends a p c i o s → Ends a p d j q t → (o ≢ out_of_space) → (j ≡ i) × (q ≡ o) × Alike s t
    pub ends_too : (i : ℕ) (o : Outcome) (s : Run a p) → Ends a p c i o s → (o ≢ out_of_space) → (t : Run a p) × Ends a p d i o t × Alike s t
