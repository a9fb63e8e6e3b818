-- The life of a job, built from what its calls say of themselves.
use Rattle.std.specs.Prelude.{ℕ, ◌+◌, ◌<◌, Bool, true, false, List, [], ◌∷◌, Ok, Err}
use Rattle.cost.specs.declared.costs.Cost as cost
use Rattle.store.specs.declared.stores.Store as store
use Rattle.queue.specs.declared.queues.Queue as queue
use Rattle.steps.specs.declared.tables.Record.{Record}
use Rattle.steps.specs.declared.tables.Tables.{Tables}
use Rattle.steps.specs.Memories.{At}
use Rattle.search.specs.declared.jobs.Searching.{Searching}
use Rattle.search.specs.declared.jobs.Worked.{Worked}
use Rattle.search.specs.declared.jobs.Worked.TheVariants as worked
use Rattle.search.specs.declared.jobs.Unworked.TheVariants as work
use Rattle.search.specs.Readings.{progress_of}
use Rattle.search.specs.Opens.{Opens}
use Rattle.search.specs.Works.{Works}

module _ {K S Q : Type 0} (C : cost.Ghosts K) (st : store.Ghosts S) (qu : queue.Ghosts Q K) (file : List ℕ) where
  -- a job was opened on a file and tables and has been worked since, with any budgets, on the same file and the tables as the
  -- last call left them: the steps done in all, the tables, and the job. Refused workings are in it too
  pub data History (s : Tables K S Q) : ℕ → Tables K S Q → Worked → Type 0 where
    opened : (t : Tables K S Q) (j : Searching) → Opens C st qu file s t (Ok j) → History s 0 t (worked.Searching j)
    went : (n b i : ℕ) (t u : Tables K S Q) (j : Searching) (w : Worked) → History s n t (worked.Searching j) → Works C st qu file j b t u (Ok (w, i)) → History s (n + i) u w
    idle : (n b : ℕ) (t u : Tables K S Q) (j k : Searching) → History s n t (worked.Searching j) → Works C st qu file j b t u (Err (work.Idle k)) → History s n u (worked.Searching k)
    torn : (n b i : ℕ) (t u : Tables K S Q) (j k : Searching) → History s n t (worked.Searching j) → Works C st qu file j b t u (Err (work.Torn k i)) → History s (n + i) u (worked.Searching k)

-- the job has ended
abbrev pub ended : Worked → Bool
ended (worked.Searching j) = false
ended (worked.Found f) = true
ended (worked.NoPlan x) = true
ended (worked.OutOfSpace x) = true

abbrev pub capacity_of : Worked → ℕ
capacity_of w = (progress_of w).capacity

-- the moves noted from node n along the parents to node 0, whose own is left out; each is below the number of moves
pub data Chain {K : Type 0} (moves : ℕ) (records : List (Record K)) : ℕ → List ℕ → Type 0 where
  done : Chain moves records 0 []
  link : {n : ℕ} {x : Record K} {ns : List ℕ} → 0 < n → At records n x → x.parent < n → x.step < moves → Chain moves records x.parent ns → Chain moves records n (x.step ∷ ns)
