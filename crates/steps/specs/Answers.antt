-- What the inner functions of a turn answer.
--
-- Three things are said of each: what holds of the counts whatever the order inside the queue is; that tables that are ready for
-- it refuse nothing, whatever that order is; and, where the queue is in order, too, which relation holds between the tables before
-- and after.
use Rattle.std.specs.Prelude.{◌≡◌, ℕ, ◌+◌, ◌*◌, ◌<◌, ◌≤◌, [], length, Some, None, Ok, Err, Option, Result}
use Rattle.rows.specs.declared.refusals.Refusal.{Refusal}
use Rattle.rows.specs.declared.refusals.Refusal.TheVariants.{Torn}
use Rattle.rows.specs.Tasks.{Task}
use Rattle.task.specs.Answers.{held}
use Rattle.task.specs.Files.{task_of}
use Rattle.cost.specs.declared.costs.Cost as cost
use Rattle.store.specs.declared.stores.Store as store
use Rattle.queue.specs.declared.queues.Queue as queue
use Rattle.queue.specs.Orders.{Names}
use Rattle.uniform.specs.Steps.{Outcome, skipped, expanded, found, out_of_space}
use Rattle.steps.specs.declared.outcomes.Stop.{Stop}
use Rattle.steps.specs.declared.outcomes.Stop.TheVariants as stop
use Rattle.steps.specs.declared.outcomes.Visited.{Visited}
use Rattle.steps.specs.declared.outcomes.Visited.TheVariants as visited
use Rattle.steps.specs.declared.workspaces.Workspace.{Workspace}
use Rattle.steps.specs.Memories.{Memory, width}
use Rattle.steps.specs.Steps.{Sound, One, Crowded, Upto, Visit, Step, Sized, Whole}

module _ {K : Type 0} (C : cost.Ghosts K) (task : Task) (cap : ℕ) where
  -- the tables are large enough for a step at node n, which is sound, and over the task's values table: no call is refused
  pub record Fit (n : ℕ) (s : Memory K) : Type 0 where
    pub within : s.stored ≤ cap
    pub short : cap ≤ 65535
    pub bytes : cap * width task ≤ length s.bytes
    pub records : cap ≤ length s.records
    pub table : s.table ≡ task.values
    pub sound : Sound C task n s

  -- while moves are tried: as many entries can still be put as nodes can be stored
  pub record Ready (n : ℕ) (s : Memory K) : Type 0 where
    pub fit : Fit n s
    pub roomy : length s.waiting + cap ≤ s.room + s.stored

  -- once the node's entry is taken: a row can be kept, too
  pub record Steady (n : ℕ) (s : Memory K) : Type 0 where
    pub ready : Ready n s
    pub spare : length s.kept < s.space

  -- while the entry still waits
  pub record Eager (n : ℕ) (s : Memory K) : Type 0 where
    pub fit : Fit n s
    pub roomy : length s.waiting + cap ≤ s.room + s.stored + 1
    pub spare : length s.kept < s.space

module _ {K S Q : Type 0} where
  abbrev pub task_in : Workspace K S Q → Task
  task_in w = task_of (held w.accepted.task)

  -- the same task, node and capacity, over the same lent memory, of which there is as much
  pub record Lent (w v : Workspace K S Q) : Type 0 where
    pub accepted : v.accepted ≡ w.accepted
    pub node : v.node ≡ w.node
    pub capacity : v.progress.capacity ≡ w.progress.capacity
    pub rows : v.rows.ghost_name ≡ w.rows.ghost_name
    pub bytes : length v.rows.now ≡ length w.rows.now
    pub noted : length v.records.now ≡ length w.records.now
    pub records : v.records.ghost_name ≡ w.records.ghost_name
    pub store : v.store.ghost_name ≡ w.store.ghost_name
    pub queue : v.queue.ghost_name ≡ w.queue.ghost_name

module _ {K S Q : Type 0} (st : store.Ghosts S) (qu : queue.Ghosts Q K) where
  -- what the parts of the tables mean
  abbrev pub memory_in : Workspace K S Q → Memory K
  memory_in w = record {
    bytes = w.rows.now;
    records = w.records.now;
    table = st.table w.store.now;
    kept = st.kept w.store.now;
    space = st.space w.store.now;
    waiting = qu.entries w.queue.now;
    room = qu.room w.queue.now;
    stored = w.progress.stored;
    cover = w.progress.cover;
  }

-- nothing is refused, but there may be no space
abbrev pub Granted : {X : Type 0} → Result X Stop → Type 0
Granted (Ok x) = Unit {0}
Granted (Err stop.Crowded) = Unit {0}
Granted (Err stop.Torn) = ⊥

abbrev pub outcome : ℕ → Visited → Outcome
outcome n visited.Skipped = skipped
outcome n visited.Expanded = expanded
outcome n visited.Found = found n

-- the relations, for the first one's task, node and capacity
module _ {K S Q : Type 0} (C : cost.Ghosts K) (st : store.Ghosts S) (qu : queue.Ghosts Q K) (w : Workspace K S Q) where
  abbrev pub ReadyAt : Workspace K S Q → Type 0
  ReadyAt v = Ready C (task_in w) w.progress.capacity w.node (memory_in st qu v)

  abbrev pub SteadyAt : Workspace K S Q → Type 0
  SteadyAt v = Steady C (task_in w) w.progress.capacity w.node (memory_in st qu v)

  abbrev pub EagerAt : Workspace K S Q → Type 0
  EagerAt v = Eager C (task_in w) w.progress.capacity w.node (memory_in st qu v)

  -- move m is tried, or there is no space for its result
  abbrev pub Moved : ℕ → Workspace K S Q → Result (Unit {0}) Stop → Type 0
  Moved m v (Ok x) = qu.ordered v.queue.now × One C (task_in w) w.progress.capacity w.node m (memory_in st qu w) (memory_in st qu v)
  Moved m v (Err stop.Crowded) = Crowded C (task_in w) w.progress.capacity w.node m (memory_in st qu w)
  Moved m v (Err stop.Torn) = ⊥

  -- from tables that are ready: nothing is refused, and they are still ready for the next move
  abbrev pub MoveGranted : Workspace K S Q → Result (Unit {0}) Stop → Type 0
  MoveGranted v (Ok x) = ReadyAt v
  MoveGranted v (Err stop.Crowded) = Unit {0}
  MoveGranted v (Err stop.Torn) = ⊥

  -- each move is tried, or those below one that finds no space
  abbrev pub Expands : Workspace K S Q → Result (Unit {0}) Stop → Type 0
  Expands v (Ok x) = qu.ordered v.queue.now × Upto C (task_in w) w.progress.capacity w.node (memory_in st qu w) (length (task_in w).moves) (memory_in st qu v)
  Expands v (Err stop.Crowded) = qu.ordered v.queue.now
      × ((m : ℕ) × (m < length (task_in w).moves) × Upto C (task_in w) w.progress.capacity w.node (memory_in st qu w) m (memory_in st qu v) × Crowded C (task_in w) w.progress.capacity w.node m (memory_in st qu v))
  Expands v (Err stop.Torn) = ⊥

  abbrev pub Visits : Workspace K S Q → Result Visited Stop → Type 0
  Visits v (Ok x) = qu.ordered v.queue.now × Visit C (task_in w) w.progress.capacity w.node (memory_in st qu w) (outcome w.node x) (memory_in st qu v)
  Visits v (Err stop.Crowded) = qu.ordered v.queue.now × Visit C (task_in w) w.progress.capacity w.node (memory_in st qu w) out_of_space (memory_in st qu v)
  Visits v (Err stop.Torn) = ⊥

  abbrev pub Takes : Workspace K S Q → Result Visited Stop → Type 0
  Takes v (Ok x) = qu.ordered v.queue.now × Step C (task_in w) w.progress.capacity (memory_in st qu w) (outcome w.node x) (memory_in st qu v)
  Takes v (Err stop.Crowded) = qu.ordered v.queue.now × Step C (task_in w) w.progress.capacity (memory_in st qu w) out_of_space (memory_in st qu v)
  Takes v (Err stop.Torn) = ⊥

-- the counts
module _ {K S Q : Type 0} (st : store.Ghosts S) (qu : queue.Ghosts Q K) (w v : Workspace K S Q) where
  -- as many more entries wait as more nodes are stored, and nothing is kept
  pub record Grown : Type 0 where
    pub more : w.progress.stored ≤ v.progress.stored
    pub store : v.store.now ≡ w.store.now
    pub waits : length (qu.entries v.queue.now) + w.progress.stored ≡ length (qu.entries w.queue.now) + v.progress.stored

  -- where there is no space, nothing is written
  abbrev pub MoveCounts : Result (Unit {0}) Stop → Type 0
  MoveCounts (Ok x) = Grown
  MoveCounts (Err stop.Crowded) = (v.store.now ≡ w.store.now) × (v.queue.now ≡ w.queue.now) × (memory_in st qu v ≡ memory_in st qu w)
  MoveCounts (Err stop.Torn) = Unit {0}

  abbrev pub ExpandCounts : Result (Unit {0}) Stop → Type 0
  ExpandCounts (Ok x) = Grown
  ExpandCounts (Err stop.Crowded) = Grown
  ExpandCounts (Err stop.Torn) = Unit {0}

  -- a row is kept, and as many more entries wait as more nodes are stored
  pub record Spread : Type 0 where
    pub more : w.progress.stored ≤ v.progress.stored
    pub keeps : length (st.kept v.store.now) ≡ length (st.kept w.store.now) + 1
    pub waits : length (qu.entries v.queue.now) + w.progress.stored ≡ length (qu.entries w.queue.now) + v.progress.stored

  pub record Skip : Type 0 where
    pub stored : v.progress.stored ≡ w.progress.stored
    pub keeps : length (st.kept v.store.now) ≡ length (st.kept w.store.now)
    pub waits : length (qu.entries v.queue.now) ≡ length (qu.entries w.queue.now)

  abbrev pub VisitCounts : Result Visited Stop → Type 0
  VisitCounts (Ok visited.Skipped) = Skip
  VisitCounts (Ok visited.Expanded) = Spread
  VisitCounts (Ok visited.Found) = v.progress ≡ w.progress
  VisitCounts (Err stop.Crowded) = Spread
  VisitCounts (Err stop.Torn) = Unit {0}

  -- the same for a step, which takes an entry first
  abbrev pub TakeCounts : Result Visited Stop → Type 0
  TakeCounts (Ok visited.Skipped) = (v.progress.stored ≡ w.progress.stored) × (length (st.kept v.store.now) ≡ length (st.kept w.store.now)) × (length (qu.entries v.queue.now) + 1 ≡ length (qu.entries w.queue.now))
  TakeCounts (Ok visited.Expanded) = (w.progress.stored ≤ v.progress.stored) × (length (st.kept v.store.now) ≡ length (st.kept w.store.now) + 1)
      × (length (qu.entries v.queue.now) + 1 + w.progress.stored ≡ length (qu.entries w.queue.now) + v.progress.stored)
  TakeCounts (Ok visited.Found) = v.progress ≡ w.progress
  TakeCounts (Err stop.Crowded) = Unit {0}
  TakeCounts (Err stop.Torn) = Unit {0}

-- what a look at the tables tells: a refusal, that nothing waits, or the least node
module _ {K : Type 0} (C : cost.Ghosts K) (task : Task) (cap k w : ℕ) where
  abbrev pub Looks : Memory K → Result (Option ℕ) Refusal → Type 0
  Looks s (Err e) = Whole C task cap k w s → ⊥
  Looks s (Ok None) = Whole C task cap k w s × (s.waiting ≡ [])
  Looks s (Ok (Some n)) = Whole C task cap k w s × Names C s.waiting n

  -- a node is named only where the sizes and counts are right, something waits, and the node is sound
  abbrev pub Looked : Memory K → Result (Option ℕ) Refusal → Type 0
  Looked s (Err e) = e ≡ Torn
  Looked s (Ok None) = Unit {0}
  Looked s (Ok (Some n)) = Sized C task cap k w s × (0 < w) × Sound C task n s
