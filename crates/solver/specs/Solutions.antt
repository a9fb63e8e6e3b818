-- What a whole search in one call answers: as the calls that it is made of, and in plain terms.
use Rattle.std.specs.Prelude.{◌≡◌, ℕ, ◌+◌, ◌<◌, ◌≤◌, ◌⊎◌, List, ◌++◌, length, drop, Ok, Err, Result}
use Rattle.rows.specs.declared.refusals.Refusal.{Refusal}
use Rattle.rows.specs.declared.refusals.Refusal.TheVariants.{BadFile, Used, NoSpace, ShortBuffer}
use Rattle.task.specs.Files.{Bodies, reading, task_of}
use Rattle.cost.specs.declared.costs.Cost as cost
use Rattle.store.specs.declared.stores.Store as store
use Rattle.queue.specs.declared.queues.Queue as queue
use Rattle.planning.specs.Plans.{Plan, plan_cost, Cheapest}
use Rattle.planning.specs.Regressions.{regression}
use Rattle.uniform.specs.Runs.{Run, Reads}
use Rattle.uniform.specs.Steps.{Outcome, found, no_plan, out_of_space, Ends}
use Rattle.steps.specs.declared.tables.Tables.{Tables}
use Rattle.steps.specs.Memories.{Memory}
use Rattle.steps.specs.Begins.{capacity, New}
use Rattle.search.specs.declared.jobs.Searching.{Searching}
use Rattle.search.specs.declared.jobs.Found.{Found}
use Rattle.search.specs.declared.jobs.NoPlan.{NoPlan}
use Rattle.search.specs.declared.jobs.OutOfSpace.{OutOfSpace}
use Rattle.search.specs.declared.jobs.Worked.{Worked}
use Rattle.search.specs.declared.jobs.Worked.TheVariants as worked
use Rattle.search.specs.Files.{Refused}
use Rattle.search.specs.Opens.{Opens}
use Rattle.search.specs.Works.{Works}
use Rattle.search.specs.Reads.{ReadsPlan, ReadsCost}
use Rattle.solver.specs.declared.solutions.Solved.{Solved}
use Rattle.solver.specs.declared.solutions.Solved.TheVariants as solved
use Rattle.follow.specs.Promises.{most}

module _ {K S Q : Type 0} (C : cost.Ghosts K) (st : store.Ghosts S) (qu : queue.Ghosts Q K) (file : List ℕ) where
  -- a job was opened on the tables and worked to its end
  pub record Ran (s t : Tables K S Q) (w : Worked) : Type 0 where
    pub first : Tables K S Q
    pub job : Searching
    pub steps : ℕ
    pub opens : Opens C st qu file s first (Ok job)
    pub works : Works C st qu file job 65536 first t (Ok (w, steps))

  -- the plan and the cost of a found job were read
  pub record BothRead (f : Found) (t : Tables K S Q) (out after : List ℕ) (k : K) (count : ℕ) : Type 0 where
    pub plan : ReadsPlan file f t out (Ok count) after
    pub cost : ReadsCost file f t (Ok k)

  -- opening, working and reading, one after the other: what all of the tables and the buffer then hold. Either opening was
  -- refused, or the job ended, and of a found one the plan and the cost were read or the buffer was too short for the plan
  abbrev pub Solves : Tables K S Q → Tables K S Q → List ℕ → List ℕ → Result (Solved K) Refusal → Type 0
  Solves s t out after (Ok (solved.Found k count)) = (f : Found) × Ran s t (worked.Found f) × BothRead f t out after k count
  Solves s t out after (Ok solved.NoPlan) = (x : NoPlan) × Ran s t (worked.NoPlan x) × (after ≡ out)
  Solves s t out after (Ok solved.OutOfSpace) = (x : OutOfSpace) × Ran s t (worked.OutOfSpace x) × (after ≡ out)
  Solves s t out after (Err e) = (after ≡ out) × (Opens C st qu file s t (Err e) ⊎ ((f : Found) × Ran s t (worked.Found f) × ReadsPlan file f t out (Err e) after × (e ≡ ShortBuffer)))

module _ {K S Q : Type 0} (file : List ℕ) where
  -- the plan and the cost of a found job are read, or one of them is refused
  abbrev pub FoundReads : Found → Tables K S Q → List ℕ → List ℕ → Result (Solved K) Refusal → Type 0
  FoundReads f t out after (Ok (solved.Found k count)) = ReadsCost file f t (Ok k) × ReadsPlan file f t out (Ok count) after
  FoundReads f t out after (Ok solved.NoPlan) = ⊥
  FoundReads f t out after (Ok solved.OutOfSpace) = ⊥
  FoundReads f t out after (Err e) = (after ≡ out) × (ReadsCost file f t (Err e) ⊎ ReadsPlan file f t out (Err e) after)

  -- what a job in any state tells; one that goes on tells nothing
  abbrev pub Finishes : Worked → Tables K S Q → List ℕ → List ℕ → Result (Solved K) Refusal → Type 0
  Finishes (worked.Searching j) t out after r = after ≡ out
  Finishes (worked.Found f) t out after r = FoundReads f t out after r
  Finishes (worked.NoPlan x) t out after r = (r ≡ Ok solved.NoPlan) × (after ≡ out)
  Finishes (worked.OutOfSpace x) t out after r = (r ≡ Ok solved.OutOfSpace) × (after ≡ out)

-- the run of the definitions of this capacity ended so
pub record Ended {K : Type 0} (C : cost.Ghosts K) (b : Bodies) (cap : ℕ) (o : Outcome) : Type 0 where
  pub steps : ℕ
  pub run : Run C.arithmetic (regression (task_of b))
  pub ends : Ends C.arithmetic (regression (task_of b)) cap steps o run

-- the run of the definitions of this capacity found these moves, which are a cheapest plan
pub record Solution {K : Type 0} (C : cost.Ghosts K) (b : Bodies) (cap : ℕ) (plan : List ℕ) : Type 0 where
  pub node : ℕ
  pub ended : Ended C b cap (found node)
  pub reads : Reads C.arithmetic (regression (task_of b)) ended.run.nodes node plan
  pub cheapest : Cheapest C.arithmetic (task_of b) plan
  pub few : length plan < cap

module _ {K : Type 0} (C : cost.Ghosts K) (file : List ℕ) (s : Memory K) where
  -- a cheapest plan is in front of the buffer, and its cost and the number of its moves are told; later cells keep theirs
  pub record Found_told (out after : List ℕ) (k : K) (count : ℕ) : Type 0 where
    pub bodies : Bodies
    pub reads : reading file ≡ Ok bodies
    pub plan : List ℕ
    pub solution : Solution C bodies (capacity (task_of bodies) s) plan
    pub cost : C.value k ≡ plan_cost C.arithmetic (task_of bodies) plan
    pub counted : count ≡ length plan
    pub fits : count ≤ length out
    pub written : after ≡ plan ++ drop count out

  -- there is no plan
  pub record None_told : Type 0 where
    pub bodies : Bodies
    pub reads : reading file ≡ Ok bodies
    pub ended : Ended C bodies (capacity (task_of bodies) s) no_plan
    pub none : (ms : List ℕ) → Plan (task_of bodies) ms → ⊥

  -- the space ran out: it was for fewer than 1 + P × M nodes
  pub record Space_told : Type 0 where
    pub bodies : Bodies
    pub reads : reading file ≡ Ok bodies
    pub ended : Ended C bodies (capacity (task_of bodies) s) out_of_space
    pub few : capacity (task_of bodies) s < 1 + most bodies

  -- the grounds of refusal, in order: the file is refused; else the tables are not new; else the capacity is 0; else the plan that
  -- is found has more moves than the buffer has cells
  pub record Unsolved (out : List ℕ) (e : Refusal) : Type 0 where
    pub bad : Refused file → e ≡ BadFile
    pub used : (b : Bodies) → reading file ≡ Ok b → (New (task_of b) s → ⊥) → e ≡ Used
    pub empty : (b : Bodies) → reading file ≡ Ok b → New (task_of b) s → capacity (task_of b) s ≡ 0 → e ≡ NoSpace
    pub short : (b : Bodies) → reading file ≡ Ok b → New (task_of b) s → 0 < capacity (task_of b) s → (e ≡ ShortBuffer) × ((plan : List ℕ) × Solution C b (capacity (task_of b) s) plan × (length out < length plan))

  -- what is told, in plain terms
  abbrev pub Tells : List ℕ → List ℕ → Result (Solved K) Refusal → Type 0
  Tells out after (Ok (solved.Found k count)) = Found_told out after k count
  Tells out after (Ok solved.NoPlan) = None_told × (after ≡ out)
  Tells out after (Ok solved.OutOfSpace) = Space_told × (after ≡ out)
  Tells out after (Err e) = Unsolved out e × (after ≡ out)
