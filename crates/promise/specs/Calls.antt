-- Lists of calls on the same tables, each with the same file.
use Rattle.std.specs.Prelude.{◌≡◌, ℕ, ◌+◌, List, [], ◌∷◌, ◌++◌, Ok, Err, Result}
use Rattle.rows.specs.declared.refusals.Refusal.{Refusal}
use Rattle.cost.specs.declared.costs.Cost as cost
use Rattle.store.specs.declared.stores.Store as store
use Rattle.queue.specs.declared.queues.Queue as queue
use Rattle.planning.specs.Lists.{In}
use Rattle.steps.specs.declared.tables.Tables.{Tables}
use Rattle.search.specs.declared.jobs.Searching.{Searching}
use Rattle.search.specs.declared.jobs.Found.{Found}
use Rattle.search.specs.declared.jobs.Worked.{Worked}
use Rattle.search.specs.declared.jobs.Worked.TheVariants as worked
use Rattle.search.specs.Works.{Work}
use Rattle.search.specs.declared.jobs.Unworked.TheVariants as work
use Rattle.search.specs.Opens.{Opens}
use Rattle.search.specs.Works.{Works}
use Rattle.search.specs.Reads.{ReadsPlan, ReadsCost}

-- a job that a call opened: the steps that its workings have answered since, and the job as the last of them gave it back
pub record Job : Type 0 where
  pub steps : ℕ
  pub state : Worked

abbrev pub job : ℕ → Worked → Job
job n w = record { steps = n; state = w }

-- the job after a working that answered so, where so many steps were done before
abbrev pub since : ℕ → Work → Job
since n (Ok (w, i)) = job (n + i) w
since n (Err (work.Idle j)) = job n (worked.Searching j)
since n (Err (work.Torn j i)) = job (n + i) (worked.Searching j)

module _ {K S Q : Type 0} (C : cost.Ghosts K) (st : store.Ghosts S) (qu : queue.Ghosts Q K) (file : List ℕ) where
  -- Calls on the same tables, and the jobs that they opened, in that order. The tables were new at first, with nothing kept and
  -- nothing waiting. Each call is handed the file, the tables as the call before left them and, but for an opening, a job of the
  -- list; it does what its own contract says, refused or not. A working uses up the job and gives it back as it then is
  pub data Calls : Tables K S Q → List Job → Type 0 where
    none : (t : Tables K S Q) → st.kept t.store ≡ [] → qu.entries t.queue ≡ [] → Calls t []
    opens : (s t : Tables K S Q) (js : List Job) (j : Searching) → Calls s js → Opens C st qu file s t (Ok j) → Calls t (js ++ job 0 (worked.Searching j) ∷ [])
    declines : (s t : Tables K S Q) (js : List Job) (e : Refusal) → Calls s js → Opens C st qu file s t (Err e) → Calls t js
    works : (s t : Tables K S Q) (before behind : List Job) (n budget : ℕ) (j : Searching) (w : Work) → Calls s (before ++ job n (worked.Searching j) ∷ behind) → Works C st qu file j budget s t w
        → Calls t (before ++ since n w ∷ behind)
    reads_plan : (t : Tables K S Q) (js : List Job) (n : ℕ) (f : Found) (out after : List ℕ) (r : Result ℕ Refusal) → Calls t js → In (job n (worked.Found f)) js → ReadsPlan file f t out r after → Calls t js
    reads_cost : (t : Tables K S Q) (js : List Job) (n : ℕ) (f : Found) (r : Result K Refusal) → Calls t js → In (job n (worked.Found f)) js → ReadsCost file f t r → Calls t js
