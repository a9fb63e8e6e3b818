-- Tables hold a run of the search: the bytes and records of its nodes, its kept rows, and what waits.
use Rattle.std.specs.Prelude.{◌≡◌, ℕ, ◌*◌, ◌≤◌, map, length, Some}
use Rattle.std.specs.List.Sorted.{IsPermutation}
use Rattle.std.specs.List.{ContainsAt as Has}
use Rattle.rows.specs.Tasks.{Task, nth, Accepted}
use Rattle.cost.specs.declared.costs.Cost as cost
use Rattle.queue.specs.declared.entries.Entry.{Entry}
use Rattle.planning.specs.Regressions.{regression}
use Rattle.uniform.specs.Runs.{Node, Run}
use Rattle.uniform.specs.Steps.{Outcome, After}
use Rattle.uniform.specs.Steps as run
use Rattle.steps.specs.declared.tables.Record.{Record}
use Rattle.steps.specs.Memories.{Memory, At, width, row_at}
use Rattle.steps.specs.Steps.{Step, Whole}

module _ {K : Type 0} (C : cost.Ghosts K) (task : Task) where
  -- row n and record n are node x's. The cost means x's, and joins no more moves than the node's number
  pub record HeldNode (s : Memory K) (n : ℕ) (x : Node C.arithmetic (regression task)) : Type 0 where
    pub row : row_at (width task) s.bytes n ≡ x.row
    pub noted : Record K
    pub there : At s.records n noted
    pub cost : C.value noted.cost ≡ x.cost
    pub joins : C.joins noted.cost ≤ n
    pub parent : noted.parent ≡ x.parent
    pub move : noted.step ≡ x.move

  -- the tables hold the run: each node, the kept rows in their order, an entry for each waiting number at its node's cost, and
  -- the last cover
  pub record Held (s : Memory K) (r : Run C.arithmetic (regression task)) : Type 0 where
    pub stored : s.stored ≡ length r.nodes
    pub nodes : (n : ℕ) (x : Node C.arithmetic (regression task)) → nth r.nodes n ≡ Some x → HeldNode s n x
    pub kept : s.kept ≡ r.kept
    pub waiting : IsPermutation (map (λ (e : Entry K). e.number) s.waiting) r.waiting
    pub costs : (e : Entry K) (x : Node C.arithmetic (regression task)) → Has s.waiting e → nth r.nodes e.number ≡ Some x → C.value e.cost ≡ x.cost
    pub cover : s.cover ≡ r.cover

  -- the tables have space for so many nodes, which have numbers of 16 bits, over the task's values table
  pub record Ample (cap : ℕ) (s : Memory K) : Type 0 where
    pub short : cap ≤ 65535
    pub bytes : cap * width task ≤ length s.bytes
    pub records : cap ≤ length s.records
    pub table : s.table ≡ task.values
    pub space : cap ≤ s.space
    pub room : cap ≤ s.room

  -- where the tables hold a run, a step of the tables is a step of the run, in the same way, and they hold what it leads to
  abbrev pub StepsAlike : Type 0
  StepsAlike = (cap i : ℕ) (s t : Memory K) (r : Run C.arithmetic (regression task)) (o : Outcome) → Accepted task → Ample cap s
      → After C.arithmetic (regression task) cap i r → Held s r → Step C task cap s o t
      → (r' : Run C.arithmetic (regression task)) × run.Step C.arithmetic (regression task) cap r o r' × Held t r' × Ample cap t

  -- and they are not torn
  abbrev pub NeverTorn : Type 0
  NeverTorn = (cap i : ℕ) (s : Memory K) (r : Run C.arithmetic (regression task)) → Accepted task → Ample cap s
      → After C.arithmetic (regression task) cap i r → Held s r → Whole C task cap (length r.kept) (length r.waiting) s
