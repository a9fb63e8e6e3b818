-- What is promised of every job, by its history.
use Rattle.std.specs.Prelude.{◌≡◌, ℕ, ◌+◌, ◌*◌, ◌<◌, ◌≤◌, true, List, None, Ok, Err}
use Rattle.rows.specs.Rows.{covers}
use Rattle.task.specs.Files.{Bodies, move_count, reading, task_of}
use Rattle.cost.specs.declared.costs.Cost as cost
use Rattle.store.specs.declared.stores.Store as store
use Rattle.queue.specs.declared.queues.Queue as queue
use Rattle.planning.specs.Plans.{Plan, plan_cost, Cheapest}
use Rattle.planning.specs.Regressions.{regression, row_count}
use Rattle.uniform.specs.Runs.{Run}
use Rattle.uniform.specs.Steps.{found, no_plan, out_of_space, After, Ends}
use Rattle.steps.specs.declared.tables.Record.{Record}
use Rattle.steps.specs.declared.tables.Tables.{Tables}
use Rattle.steps.specs.Memories.{At, memory}
use Rattle.steps.specs.Holdings.{Held, Ample}
use Rattle.search.specs.declared.jobs.Searching.{Searching}
use Rattle.search.specs.declared.jobs.Found.{Found}
use Rattle.search.specs.declared.jobs.NoPlan.{NoPlan}
use Rattle.search.specs.declared.jobs.OutOfSpace.{OutOfSpace}
use Rattle.search.specs.declared.jobs.Worked.{Worked}
use Rattle.search.specs.declared.jobs.Worked.TheVariants as worked
use Rattle.search.specs.declared.jobs.Unworked.TheVariants as work
use Rattle.search.specs.Files.{Suits}
use Rattle.steps.specs.Begins.{capacity, New}
use Rattle.search.specs.Works.{Works}
use Rattle.follow.specs.Histories.{History, ended, capacity_of, Chain}

-- P × M: the product over the variables of values + 1, times the number of moves
abbrev pub most : Bodies → ℕ
most b = row_count b.values * move_count b

-- the moves noted from node n are a cheapest plan of the task, no others are noted from it, and its cost is that plan's
pub record Finds {K : Type 0} (C : cost.Ghosts K) (b : Bodies) (records : List (Record K)) (n : ℕ) : Type 0 where
  pub moves : List ℕ
  pub chain : Chain (move_count b) records n moves
  pub only : (ms : List ℕ) → Chain (move_count b) records n ms → ms ≡ moves
  pub cheapest : Cheapest C.arithmetic (task_of b) moves
  pub noted : Record K
  pub there : At records n noted
  pub cost : C.value noted.cost ≡ plan_cost C.arithmetic (task_of b) moves

module _ {K S Q : Type 0} (C : cost.Ghosts K) (st : store.Ghosts S) (qu : queue.Ghosts Q K) where
  -- a job's working is never refused torn
  abbrev pub NeverRefused : Type 0
  NeverRefused = (file : List ℕ) (s t u : Tables K S Q) (n budget i : ℕ) (j k : Searching) → History C st qu file s n t (worked.Searching j) → Works C st qu file j budget t u (Err (work.Torn k i)) → ⊥

  -- the run of the definitions that a job's tables hold, with space for as many nodes as its capacity says: it goes on after as
  -- many steps, or ended in that step in the same way. The file still has the shape that a found job notes
  abbrev pub AsDefined : List ℕ → Bodies → ℕ → Tables K S Q → Worked → Type 0
  AsDefined file b n t (worked.Searching j) = (r : Run C.arithmetic (regression (task_of b))) × After C.arithmetic (regression (task_of b)) j.numbers.progress.capacity n r × Held C (task_of b) (memory st qu t j.numbers.progress.stored j.numbers.progress.cover) r × Ample C (task_of b) j.numbers.progress.capacity (memory st qu t j.numbers.progress.stored j.numbers.progress.cover)
  AsDefined file b n t (worked.Found f) = (r : Run C.arithmetic (regression (task_of b))) × Ends C.arithmetic (regression (task_of b)) f.progress.capacity n (found f.node) r × Held C (task_of b) (memory st qu t f.progress.stored f.progress.cover) r × Ample C (task_of b) f.progress.capacity (memory st qu t f.progress.stored f.progress.cover) × Suits file f.shape b
  AsDefined file b n t (worked.NoPlan x) = (r : Run C.arithmetic (regression (task_of b))) × Ends C.arithmetic (regression (task_of b)) x.progress.capacity n no_plan r × Held C (task_of b) (memory st qu t x.progress.stored x.progress.cover) r × Ample C (task_of b) x.progress.capacity (memory st qu t x.progress.stored x.progress.cover)
  AsDefined file b n t (worked.OutOfSpace x) = (r : Run C.arithmetic (regression (task_of b))) × Ends C.arithmetic (regression (task_of b)) x.progress.capacity n out_of_space r × Held C (task_of b) (memory st qu t x.progress.stored x.progress.cover) r × Ample C (task_of b) x.progress.capacity (memory st qu t x.progress.stored x.progress.cover)

  -- a job's steps and its ending are those of the definitions
  abbrev pub StepsAsDefined : Type 0
  StepsAsDefined = (file : List ℕ) (b : Bodies) (s t : Tables K S Q) (n : ℕ) (w : Worked) → reading file ≡ Ok b → History C st qu file s n t w → AsDefined file b n t w

  -- a job that found a node found a cheapest plan
  abbrev pub FoundIsCheapest : Type 0
  FoundIsCheapest = (file : List ℕ) (b : Bodies) (s t : Tables K S Q) (n : ℕ) (f : Found) → reading file ≡ Ok b → History C st qu file s n t (worked.Found f) → Finds C b t.records.now f.node

  -- "no plan" is told only if there is none
  abbrev pub NoPlanIsNone : Type 0
  NoPlanIsNone = (file : List ℕ) (b : Bodies) (s t : Tables K S Q) (n : ℕ) (x : NoPlan) (ms : List ℕ) → reading file ≡ Ok b → History C st qu file s n t (worked.NoPlan x) → Plan (task_of b) ms → ⊥

  -- with a capacity of at least 1 + P × M a job is never out of space
  abbrev pub SpaceSuffices : Type 0
  SpaceSuffices = (file : List ℕ) (b : Bodies) (s t : Tables K S Q) (n : ℕ) (x : OutOfSpace) → reading file ≡ Ok b → 1 + most b ≤ x.progress.capacity → History C st qu file s n t (worked.OutOfSpace x) → ⊥

  -- a job keeps the capacity that its tables had as it was opened, and ends by step 2 + P × M and by the step after its capacity
  pub record EndsBy (file : List ℕ) (b : Bodies) : Type 0 where
    pub capacity : (s t : Tables K S Q) (n : ℕ) (w : Worked) → History C st qu file s n t w → capacity_of w ≡ capacity (task_of b) (memory st qu s 0 None)
    pub still : (s t : Tables K S Q) (n : ℕ) (j : Searching) → History C st qu file s n t (worked.Searching j) → (n < 2 + most b) × (n < j.numbers.progress.capacity + 1)
    pub at_end : (s t : Tables K S Q) (n : ℕ) (w : Worked) → History C st qu file s n t w → (n ≤ 2 + most b) × (n ≤ capacity_of w + 1)
    -- so a working with a budget of what is left of these steps ends it
    pub surely : (s t u : Tables K S Q) (n budget i : ℕ) (j k : Searching) → History C st qu file s n t (worked.Searching j) → j.numbers.progress.capacity + 1 ≤ n + budget
        → Works C st qu file j budget t u (Ok (worked.Searching k, i)) → ⊥

  abbrev pub JobsEnd : Type 0
  JobsEnd = (file : List ℕ) (b : Bodies) → reading file ≡ Ok b → EndsBy file b

-- a job that found the goal's own node in its first step: the goal holds in the start, and the empty plan is noted
pub record AtOnce (b : Bodies) (n : ℕ) (w : Worked) : Type 0 where
  pub job : Found
  pub is : w ≡ worked.Found job
  pub node : job.node ≡ 0
  pub steps : n ≡ 1
  pub easy : covers b.goal b.start ≡ true

module _ {K S Q : Type 0} (C : cost.Ghosts K) (st : store.Ghosts S) (qu : queue.Ghosts Q K) where
  -- only such a job leaves its tables new, so that another can be opened on them
  abbrev pub OthersUse : Type 0
  OthersUse = (file : List ℕ) (b : Bodies) (s t : Tables K S Q) (n : ℕ) (w : Worked) → reading file ≡ Ok b → History C st qu file s n t w → New (task_of b) (memory st qu t 0 None) → AtOnce b n w

-- another job found the same: its node is of the same number, the same moves are noted from it, and it took as many steps
pub record SameFound {K : Type 0} (b : Bodies) (records others : List (Record K)) (n m : ℕ) (f : Found) (w : Worked) : Type 0 where
  pub job : Found
  pub is : w ≡ worked.Found job
  pub steps : m ≡ n
  pub node : job.node ≡ f.node
  pub stored : job.progress.stored ≡ f.progress.stored
  pub moves : (ms : List ℕ) → Chain (move_count b) records f.node ms → Chain (move_count b) others job.node ms

module _ {K S Q R P : Type 0} (C : cost.Ghosts K) (st : store.Ghosts S) (qu : queue.Ghosts Q K) (st' : store.Ghosts R) (qu' : queue.Ghosts P K) where
  -- two jobs on the same file, in other tables of other makes: where the one of the lower capacity found a node, the other, once
  -- it has ended, found the same in as many steps; and where the one told that there is no plan, so did the other
  pub record Repeats (file : List ℕ) (b : Bodies) : Type 0 where
    pub found : (s t : Tables K S Q) (s' t' : Tables K R P) (n m : ℕ) (f : Found) (w : Worked) → History C st qu file s n t (worked.Found f) → History C st' qu' file s' m t' w
        → ended w ≡ true → f.progress.capacity ≤ capacity_of w → SameFound b t.records.now t'.records.now n m f w
    pub none : (s t : Tables K S Q) (s' t' : Tables K R P) (n m : ℕ) (x : NoPlan) (w : Worked) → History C st qu file s n t (worked.NoPlan x) → History C st' qu' file s' m t' w
        → ended w ≡ true → x.progress.capacity ≤ capacity_of w → ((y : NoPlan) × (w ≡ worked.NoPlan y)) × (m ≡ n)

  abbrev pub Repeatable : Type 0
  Repeatable = (file : List ℕ) (b : Bodies) → reading file ≡ Ok b → Repeats file b
