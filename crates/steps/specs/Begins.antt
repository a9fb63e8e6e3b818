-- How a job's tables are before it is opened, and what opening does to them.
use Rattle.std.specs.Prelude.{◌≡◌, ℕ, ◌/◌, ◌<◌, min, [], length, None, Ok, Err, Result, slice_set}
use Rattle.rows.specs.declared.refusals.Refusal.{Refusal}
use Rattle.rows.specs.declared.refusals.Refusal.TheVariants.{Used, NoSpace}
use Rattle.rows.specs.Tasks.{Task}
use Rattle.cost.specs.declared.costs.Cost as cost
use Rattle.store.specs.declared.stores.Store as store
use Rattle.queue.specs.declared.queues.Queue as queue
use Rattle.queue.specs.Orders.{Added}
use Rattle.steps.specs.declared.tables.Record.{Record}
use Rattle.steps.specs.declared.tables.Tables.{Tables}
use Rattle.steps.specs.Memories.{Memory, memory, width, written}

-- the capacity of tables for a task: the least of the rows that the bytes hold, the records, the store's and the queue's
-- capacity, and 65,535
abbrev pub capacity : {K : Type 0} → Task → Memory K → ℕ
capacity task s = min (min (min (min (length s.bytes / width task) (length s.records)) s.space) s.room) 65535

-- the tables are new for a task: nothing is kept, nothing waits, and the store is over the task's values table
pub record New {K : Type 0} (task : Task) (s : Memory K) : Type 0 where
  pub kept : s.kept ≡ []
  pub waiting : s.waiting ≡ []
  pub table : s.table ≡ task.values

-- what is noted of node 0: the cost of nothing, with parent and move 0
pub record Root {K : Type 0} (C : cost.Ghosts K) (x : Record K) : Type 0 where
  pub nothing : C.value x.cost ≡ C.arithmetic.nothing
  pub joins : C.joins x.cost ≡ 0
  pub is : x ≡ record { cost = x.cost; parent = 0; step = 0 }

module _ {K : Type 0} (C : cost.Ghosts K) (task : Task) where
  -- node 0 is stored and waits: the goal's row, at the cost of nothing, with parent and move 0
  pub record Began (s t : Memory K) : Type 0 where
    pub cost : K
    pub nothing : C.value cost ≡ C.arithmetic.nothing
    pub joins : C.joins cost ≡ 0
    pub bytes : t.bytes ≡ written s.bytes 0 task.goal
    pub records : t.records ≡ slice_set s.records 0 (record { cost = cost; parent = 0; step = 0 })
    pub waiting : Added [] (record { cost = cost; number = 0 }) t.waiting
    pub kept : t.kept ≡ s.kept
    pub table : t.table ≡ s.table
    pub space : t.space ≡ s.space
    pub room : t.room ≡ s.room
    pub stored : t.stored ≡ 1
    pub cover : t.cover ≡ None

-- the grounds on which tables are declined, in order: they are not new; else the capacity is 0
pub record Unfit {K : Type 0} (task : Task) (s : Memory K) (e : Refusal) : Type 0 where
  pub used : (New task s → ⊥) → e ≡ Used
  pub full : New task s → (e ≡ NoSpace) × (capacity task s ≡ 0)

module _ {K S Q : Type 0} (C : cost.Ghosts K) (st : store.Ghosts S) (qu : queue.Ghosts Q K) (task : Task) where
  -- a job of capacity c has been begun in new tables
  pub record Begun (s t : Tables K S Q) (c : ℕ) : Type 0 where
    pub new : New task (memory st qu s 0 None)
    pub some : 0 < c
    pub capacity : c ≡ capacity task (memory st qu s 0 None)
    pub ordered : qu.ordered t.queue
    pub began : Began C task (memory st qu s 0 None) (memory st qu t 1 None)

  abbrev pub Begins : Tables K S Q → Tables K S Q → Result ℕ Refusal → Type 0
  Begins s t (Ok c) = Begun s t c
  Begins s t (Err e) = (t ≡ s) × Unfit task (memory st qu s 0 None) e
