-- What one step does to the tables, as a relation, for any tables. Nothing is open but the rank among several covers and the
-- entry removed among ties in cost and number.
use Rattle.std.specs.Prelude.{◌≡◌, ℕ, ◌+◌, ◌*◌, ◌<◌, ◌≤◌, true, false, [], ◌∷◌, ◌++◌, length, Some, None, Option, slice_set}
use Rattle.rows.specs.Rows.{Row, covers, fits}
use Rattle.rows.specs.Tasks.{Task, nth}
use Rattle.cost.specs.declared.costs.Cost as cost
use Rattle.store.specs.Stores.{CoverAt, Uncovered}
use Rattle.queue.specs.declared.entries.Entry.{Entry}
use Rattle.queue.specs.Orders.{Least, Names, Added}
use Rattle.planning.specs.Plans.{price}
use Rattle.planning.specs.Regressions.{over}
use Rattle.uniform.specs.Steps.{Outcome, skipped, expanded, found, no_plan, out_of_space}
use Rattle.steps.specs.declared.tables.Record.{Record}
use Rattle.steps.specs.Memories.{Memory, At, width, row_at, written}

-- a row regressed over move m of the task, or nothing
abbrev pub back : Task → ℕ → Row → Option Row
back t m g = over (nth t.moves m) g

-- a rank is answered, and nothing else changes
abbrev pub answered : {K : Type 0} → Memory K → ℕ → Memory K
answered s k = record { bytes = s.bytes; records = s.records; table = s.table; kept = s.kept; space = s.space; waiting = s.waiting; room = s.room; stored = s.stored; cover = Some k }

module _ {K : Type 0} (C : cost.Ghosts K) (task : Task) where
  abbrev pub row : Memory K → ℕ → Row
  row s n = row_at (width task) s.bytes n

  -- node n is stored, its row fits, and its cost joins no more moves than its number
  pub record Sound (n : ℕ) (s : Memory K) : Type 0 where
    pub node : n < s.stored
    pub fit : fits task.values (row_at (width task) s.bytes n) ≡ true
    pub noted : Record K
    pub there : At s.records n noted
    pub joins : C.joins noted.cost ≤ n

  -- c is the cost of move m joined to that of node n
  pub record Joined (s : Memory K) (n m : ℕ) (c : K) : Type 0 where
    pub noted : Record K
    pub there : At s.records n noted
    pub value : C.value c ≡ C.arithmetic.joined (C.arithmetic.priced (price task m)) (C.value noted.cost)
    pub joins : C.joins c ≡ 1 + C.joins noted.cost

  -- a row is stored as the next node, noted as met from node n by move m at a cost, and waits
  pub record Stored (n m : ℕ) (r : Row) (c : K) (s t : Memory K) : Type 0 where
    pub bytes : t.bytes ≡ written s.bytes (s.stored * width task) r
    pub records : t.records ≡ slice_set s.records s.stored (record { cost = c; parent = n; step = m })
    pub waiting : Added s.waiting (record { cost = c; number = s.stored }) t.waiting
    pub stored : t.stored ≡ s.stored + 1
    pub kept : t.kept ≡ s.kept
    pub table : t.table ≡ s.table
    pub space : t.space ≡ s.space
    pub room : t.room ≡ s.room
    pub cover : t.cover ≡ s.cover

  -- an entry that no other comes before is taken out of the queue
  pub record Taken (e : Entry K) (s t : Memory K) : Type 0 where
    pub least : Least C s.waiting e
    pub rest : Added t.waiting e s.waiting
    pub bytes : t.bytes ≡ s.bytes
    pub records : t.records ≡ s.records
    pub kept : t.kept ≡ s.kept
    pub table : t.table ≡ s.table
    pub space : t.space ≡ s.space
    pub room : t.room ≡ s.room
    pub stored : t.stored ≡ s.stored
    pub cover : t.cover ≡ s.cover

  -- a row is kept, at the next rank
  pub record Kept (r : Row) (s t : Memory K) : Type 0 where
    pub kept : t.kept ≡ s.kept ++ r ∷ []
    pub bytes : t.bytes ≡ s.bytes
    pub records : t.records ≡ s.records
    pub table : t.table ≡ s.table
    pub space : t.space ≡ s.space
    pub waiting : t.waiting ≡ s.waiting
    pub room : t.room ≡ s.room
    pub stored : t.stored ≡ s.stored
    pub cover : t.cover ≡ s.cover

module _ {K : Type 0} (C : cost.Ghosts K) (task : Task) (cap : ℕ) where
  -- move m is tried at node n: its row is not regressed, or to a row that a kept one covers, and nothing is written; or the
  -- result is stored
  pub data One (n m : ℕ) (s : Memory K) : Memory K → Type 0 where
    unmoved : back task m (row_at (width task) s.bytes n) ≡ None → One n m s s
    covered : {r : Row} {k : ℕ} → back task m (row_at (width task) s.bytes n) ≡ Some r → CoverAt s.kept r k → One n m s (answered s k)
    stores : {r : Row} {c : K} {t : Memory K} → back task m (row_at (width task) s.bytes n) ≡ Some r → Uncovered s.kept r → s.stored < cap
        → Joined C task s n m c → Stored C task n m r c s t → One n m s t

  -- move m regresses the row to one that no kept row covers, and as many nodes as there may be are stored
  pub record Crowded (n m : ℕ) (s : Memory K) : Type 0 where
    pub result : Row
    pub moved : back task m (row_at (width task) s.bytes n) ≡ Some result
    pub uncovered : Uncovered s.kept result
    pub full : cap ≤ s.stored

  -- the moves below m are tried at node n, in order
  pub data Upto (n : ℕ) (s : Memory K) : ℕ → Memory K → Type 0 where
    none : Upto n s 0 s
    more : {m : ℕ} {t u : Memory K} → Upto n s m t → One n m t u → Upto n s (m + 1) u

  -- what is done with node n once it is taken
  pub data Visit (n : ℕ) (s : Memory K) : Outcome → Memory K → Type 0 where
    skips : {k : ℕ} → CoverAt s.kept (row_at (width task) s.bytes n) k → Visit n s skipped (answered s k)
    finds : Uncovered s.kept (row_at (width task) s.bytes n) → covers (row_at (width task) s.bytes n) task.start ≡ true → Visit n s (found n) s
    expands : {t u : Memory K} → Uncovered s.kept (row_at (width task) s.bytes n) → covers (row_at (width task) s.bytes n) task.start ≡ false
        → Kept C task (row_at (width task) s.bytes n) s t → Upto n t (length task.moves) u → Visit n s expanded u
    crowds : {m : ℕ} {t u : Memory K} → Uncovered s.kept (row_at (width task) s.bytes n) → covers (row_at (width task) s.bytes n) task.start ≡ false
        → Kept C task (row_at (width task) s.bytes n) s t → Upto n t m u → m < length task.moves → Crowded n m u → Visit n s out_of_space u

  -- one step: nothing waits, or the least node is taken and visited
  pub data Step (s : Memory K) : Outcome → Memory K → Type 0 where
    ends : s.waiting ≡ [] → Step s no_plan s
    takes : {e : Entry K} {t u : Memory K} {o : Outcome} → Taken C task e s t → Visit e.number t o u → Step s o u

  -- the tables are as large as the capacity asks, the store is over the task's values table, and so many rows are kept and so
  -- many entries wait
  pub record Sized (k w : ℕ) (s : Memory K) : Type 0 where
    pub bytes : cap * width task ≤ length s.bytes
    pub records : cap ≤ length s.records
    pub table : s.table ≡ task.values
    pub keeps : length s.kept ≡ k
    pub waits : length s.waiting ≡ w
    pub space : cap ≤ s.space
    pub room : cap ≤ s.room

  -- the tables are not torn, for a job that left so many rows kept and so many entries waiting
  pub record Whole (k w : ℕ) (s : Memory K) : Type 0 where
    pub sized : Sized k w s
    pub least : (n : ℕ) → Names C s.waiting n → Sound C task n s
