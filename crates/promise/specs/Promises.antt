-- The promise: what holds of every list of calls, over any kind of cost and any makes of store and queue.
use Rattle.std.specs.Prelude.{◌≡◌, ℕ, ◌+◌, ◌<◌, ◌≤◌, true, List, length, take, Ok, Err}
use Rattle.rows.specs.declared.refusals.Refusal.{Refusal}
use Rattle.rows.specs.declared.refusals.Refusal.TheVariants.{Torn}
use Rattle.task.specs.Files.{Bodies, reading, task_of}
use Rattle.cost.specs.declared.costs.Cost as cost
use Rattle.store.specs.declared.stores.Store as store
use Rattle.queue.specs.declared.queues.Queue as queue
use Rattle.planning.specs.Lists.{In}
use Rattle.planning.specs.Plans.{Plan, plan_cost, Cheapest}
use Rattle.planning.specs.Regressions.{regression}
use Rattle.uniform.specs.Runs.{Run}
use Rattle.uniform.specs.Steps.{found, no_plan, out_of_space, After, Ends}
use Rattle.steps.specs.declared.tables.Tables.{Tables}
use Rattle.search.specs.declared.jobs.Searching.{Searching}
use Rattle.search.specs.declared.jobs.Found.{Found}
use Rattle.search.specs.declared.jobs.NoPlan.{NoPlan}
use Rattle.search.specs.declared.jobs.OutOfSpace.{OutOfSpace}
use Rattle.search.specs.declared.jobs.Worked.{Worked}
use Rattle.search.specs.declared.jobs.Worked.TheVariants as worked
use Rattle.search.specs.declared.jobs.Unworked.TheVariants as work
use Rattle.search.specs.Readings.{cover_of, stored_of}
use Rattle.search.specs.Opens.{Opens}
use Rattle.search.specs.Works.{Works}
use Rattle.search.specs.Reads.{ReadsPlan, ReadsCost}
use Rattle.promise.specs.Calls.{Job, job, Calls}
use Rattle.follow.specs.Histories.{ended, capacity_of}
use Rattle.follow.specs.Promises.{most}

module _ {K : Type 0} (C : cost.Ghosts K) (b : Bodies) where
  -- a run of the definitions has stored as many nodes as the job says, and its last cover is the job's
  pub record Told (r : Run C.arithmetic (regression (task_of b))) (w : Worked) : Type 0 where
    pub stored : stored_of w ≡ length r.nodes
    pub cover : cover_of w ≡ r.cover

  -- the job's steps and its ending are those of the definitions: a run of its capacity goes on after as many steps, or ended in
  -- that step in the same way
  abbrev pub Defined : ℕ → Worked → Type 0
  Defined n (worked.Searching j) = (r : Run C.arithmetic (regression (task_of b))) × After C.arithmetic (regression (task_of b)) j.numbers.progress.capacity n r × Told r (worked.Searching j)
  Defined n (worked.Found f) = (r : Run C.arithmetic (regression (task_of b))) × Ends C.arithmetic (regression (task_of b)) f.progress.capacity n (found f.node) r × Told r (worked.Found f)
  Defined n (worked.NoPlan x) = (r : Run C.arithmetic (regression (task_of b))) × Ends C.arithmetic (regression (task_of b)) x.progress.capacity n no_plan r × Told r (worked.NoPlan x)
  Defined n (worked.OutOfSpace x) = (r : Run C.arithmetic (regression (task_of b))) × Ends C.arithmetic (regression (task_of b)) x.progress.capacity n out_of_space r × Told r (worked.OutOfSpace x)

module _ {K S Q : Type 0} (C : cost.Ghosts K) (st : store.Ghosts S) (qu : queue.Ghosts Q K) (file : List ℕ) (b : Bodies) where
  -- what holds of the jobs of a call list that left these tables, and of whatever call comes next
  pub record Kept (t : Tables K S Q) (js : List Job) : Type 0 where
    -- never torn: no working and no reading is refused so
    pub works : (n budget i : ℕ) (j k : Searching) (u : Tables K S Q) → In (job n (worked.Searching j)) js → Works C st qu file j budget t u (Err (work.Torn k i)) → ⊥
    pub plan_reads : (n : ℕ) (f : Found) (out after : List ℕ) → In (job n (worked.Found f)) js → ReadsPlan file f t out (Err Torn) after → ⊥
    pub cost_reads : (n : ℕ) (f : Found) (e : Refusal) → In (job n (worked.Found f)) js → ReadsCost file f t (Err e) → ⊥
    -- as defined: each job's steps and its ending
    pub defined : (n : ℕ) (w : Worked) → In (job n w) js → Defined C b n w
    -- cheapest: what a plan reading writes is a plan, and no plan comes before it in cost, of whatever length; what a cost reading
    -- tells means the cost of that plan
    pub cheapest : (n count : ℕ) (f : Found) (out after : List ℕ) → In (job n (worked.Found f)) js → ReadsPlan file f t out (Ok count) after → Cheapest C.arithmetic (task_of b) (take count after)
    pub cost : (n count : ℕ) (f : Found) (out after : List ℕ) (k : K) → In (job n (worked.Found f)) js → ReadsPlan file f t out (Ok count) after → ReadsCost file f t (Ok k)
        → C.value k ≡ plan_cost C.arithmetic (task_of b) (take count after)
    -- complete: "no plan" is told only if there is none
    pub none : (n : ℕ) (x : NoPlan) (ms : List ℕ) → In (job n (worked.NoPlan x)) js → Plan (task_of b) ms → ⊥
    -- a job of a capacity of at least 1 + P × M is never out of space
    pub space : (n : ℕ) (x : OutOfSpace) → In (job n (worked.OutOfSpace x)) js → 1 + most b ≤ x.progress.capacity → ⊥
    -- a job ends by step 2 + P × M and by the step after its capacity: while it goes on it has done fewer, and a working with a
    -- budget of what is left of either ends it
    pub ends : (n : ℕ) (w : Worked) → In (job n w) js → (n ≤ 2 + most b) × (n ≤ capacity_of w + 1)
    pub goes : (n : ℕ) (j : Searching) → In (job n (worked.Searching j)) js → (n < 2 + most b) × (n < j.numbers.progress.capacity + 1)
    pub surely : (n budget i : ℕ) (j k : Searching) (u : Tables K S Q) → In (job n (worked.Searching j)) js → Works C st qu file j budget t u (Ok (worked.Searching k, i))
        → (n + budget < 2 + most b) × (n + budget < j.numbers.progress.capacity + 1)
    -- another job is opened on the tables only where every job before found node 0 in its first step: the goal holds in the start
    pub reopens : (n : ℕ) (w : Worked) (j : Searching) (u : Tables K S Q) → In (job n w) js → Opens C st qu file t u (Ok j) → (n ≡ 1) × ((f : Found) × (w ≡ worked.Found f) × (f.node ≡ 0))

module _ {K S Q : Type 0} (C : cost.Ghosts K) (st : store.Ghosts S) (qu : queue.Ghosts Q K) where
  -- every list of calls keeps this
  abbrev pub AlwaysKept : Type 0
  AlwaysKept = (file : List ℕ) (b : Bodies) (t : Tables K S Q) (js : List Job) → reading file ≡ Ok b → Calls C st qu file t js → Kept C st qu file b t js

-- another job found the same: with as many nodes in as many steps, and whenever both plans are read, the same moves
pub record Again {K S Q R P : Type 0} (file : List ℕ) (t : Tables K S Q) (u : Tables K R P) (n m : ℕ) (f : Found) (w : Worked) : Type 0 where
  pub job : Found
  pub is : w ≡ worked.Found job
  pub steps : m ≡ n
  pub stored : job.progress.stored ≡ f.progress.stored
  pub moves : (count total : ℕ) (out after more later : List ℕ) → ReadsPlan file f t out (Ok count) after → ReadsPlan file job u more (Ok total) later → take total later ≡ take count after

module _ {K S Q R P : Type 0} (C : cost.Ghosts K) (st : store.Ghosts S) (qu : queue.Ghosts Q K) (st' : store.Ghosts R) (qu' : queue.Ghosts P K) where
  -- repeatable: where a job of one list found a plan, every ended job of another list, on the same file and the same kind of cost
  -- but in other tables and of other makes, with at least that capacity, found the same moves in the same order in as many steps;
  -- and where it told that there is no plan, so did the other
  pub record Repeats (file : List ℕ) (t : Tables K S Q) (js : List Job) (u : Tables K R P) (ks : List Job) : Type 0 where
    pub found : (n m : ℕ) (f : Found) (w : Worked) → In (job n (worked.Found f)) js → In (job m w) ks → ended w ≡ true → f.progress.capacity ≤ capacity_of w → Again file t u n m f w
    pub none : (n m : ℕ) (x : NoPlan) (w : Worked) → In (job n (worked.NoPlan x)) js → In (job m w) ks → ended w ≡ true → x.progress.capacity ≤ capacity_of w → ((y : NoPlan) × (w ≡ worked.NoPlan y)) × (m ≡ n)

  abbrev pub AlwaysRepeats : Type 0
  AlwaysRepeats = (file : List ℕ) (b : Bodies) (t : Tables K S Q) (js : List Job) (u : Tables K R P) (ks : List Job) → reading file ≡ Ok b → Calls C st qu file t js → Calls C st' qu' file u ks → Repeats file t js u ks
