-- What opening a job answers, and what it does to the tables.
use Rattle.std.specs.Prelude.{◌≡◌, ℕ, ◌<◌, List, None, Ok, Err, Result}
use Rattle.rows.specs.declared.refusals.Refusal.{Refusal}
use Rattle.rows.specs.declared.refusals.Refusal.TheVariants.{BadFile}
use Rattle.task.specs.Files.{Bodies, reading, task_of}
use Rattle.cost.specs.declared.costs.Cost as cost
use Rattle.store.specs.declared.stores.Store as store
use Rattle.queue.specs.declared.queues.Queue as queue
use Rattle.steps.specs.declared.tables.Tables.{Tables}
use Rattle.steps.specs.Memories.{Memory, memory}
use Rattle.steps.specs.Begins.{capacity, New, Began, Unfit}
use Rattle.search.specs.declared.jobs.Searching.{Searching}
use Rattle.search.specs.Files.{Refused, Shaped}

-- the grounds of refusal, in order: the file is refused; else the tables are not new; else the capacity is 0
pub record Declined {K : Type 0} (file : List ℕ) (s : Memory K) (e : Refusal) : Type 0 where
  pub bad : Refused file → e ≡ BadFile
  pub unfit : (b : Bodies) → reading file ≡ Ok b → Unfit (task_of b) s e

module _ {K S Q : Type 0} (C : cost.Ghosts K) (st : store.Ghosts S) (qu : queue.Ghosts Q K) where
  -- a job is opened on the bodies of a file, in new tables, which then hold node 0
  pub record Opened (b : Bodies) (s t : Tables K S Q) (j : Searching) : Type 0 where
    pub new : New (task_of b) (memory st qu s 0 None)
    pub some : 0 < capacity (task_of b) (memory st qu s 0 None)
    pub capacity : j.numbers.progress.capacity ≡ capacity (task_of b) (memory st qu s 0 None)
    pub shaped : Shaped j.shape b
    pub kept : j.numbers.kept ≡ 0
    pub waiting : j.numbers.waiting ≡ 1
    pub ordered : qu.ordered t.queue
    pub began : Began C (task_of b) (memory st qu s 0 None) (memory st qu t j.numbers.progress.stored j.numbers.progress.cover)

  abbrev pub OpensOn : Bodies → Tables K S Q → Tables K S Q → Result Searching Refusal → Type 0
  OpensOn b s t (Ok j) = Opened b s t j
  OpensOn b s t (Err e) = (t ≡ s) × Unfit (task_of b) (memory st qu s 0 None) e

  abbrev pub Opens : List ℕ → Tables K S Q → Tables K S Q → Result Searching Refusal → Type 0
  Opens file s t (Ok j) = (b : Bodies) × (reading file ≡ Ok b) × Opened b s t j
  Opens file s t (Err e) = (t ≡ s) × Declined file (memory st qu s 0 None) e
