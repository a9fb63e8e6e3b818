-- What working a job answers, and what it does to the tables.
use Rattle.std.specs.Prelude.{◌≡◌, ℕ, ◌<◌, ◌≤◌, true, ◌⊎◌, List, Ok, Err, Result}
use Rattle.rows.specs.Tasks.{Task}
use Rattle.task.specs.Files.{Bodies, task_of}
use Rattle.cost.specs.declared.costs.Cost as cost
use Rattle.store.specs.declared.stores.Store as store
use Rattle.queue.specs.declared.queues.Queue as queue
use Rattle.uniform.specs.Steps.{Outcome, going, found, no_plan, out_of_space}
use Rattle.steps.specs.declared.tables.Tables.{Tables}
use Rattle.steps.specs.Memories.{memory}
use Rattle.steps.specs.Turns.{Standing, Intact, Known, Turn, Goes, Ends}
use Rattle.steps.specs.Turns as numbers
use Rattle.search.specs.declared.jobs.Searching.{Searching}
use Rattle.search.specs.declared.jobs.Found.{Found}
use Rattle.search.specs.declared.jobs.Worked.{Worked}
use Rattle.search.specs.declared.jobs.Worked.TheVariants as worked
use Rattle.search.specs.declared.jobs.Unworked.{Unworked}
use Rattle.search.specs.declared.jobs.Unworked.TheVariants as work
use Rattle.search.specs.Files.{Shaped, Suits, Unsuited}

-- the job as it then is and the steps done, or why it was refused
abbrev pub Work : Type 0
Work = Result (Worked × ℕ) Unworked

abbrev pub standing : {K S Q : Type 0} → store.Ghosts S → queue.Ghosts Q K → Tables K S Q → Searching → Standing K
standing st qu t j = numbers.standing st qu t j.numbers

-- the job is of the same file and capacity
pub record Same (j k : Searching) : Type 0 where
  pub shape : k.shape ≡ j.shape
  pub capacity : k.numbers.progress.capacity ≡ j.numbers.progress.capacity

pub record SameFound (j : Searching) (f : Found) : Type 0 where
  pub shape : f.shape ≡ j.shape
  pub capacity : f.progress.capacity ≡ j.numbers.progress.capacity

module _ {K S Q : Type 0} (C : cost.Ghosts K) (st : store.Ghosts S) (qu : queue.Ghosts Q K) (task : Task) where
  -- one step of a job, or the tables are torn
  abbrev pub Advanced : Searching → Tables K S Q → Tables K S Q → Result Worked Searching → Type 0
  Advanced j s t (Ok (worked.Searching k)) = Same j k × Known C task j.numbers.progress.capacity (standing st qu t k)
      × (qu.ordered s.queue → qu.ordered t.queue × ((o : Outcome) × (going o ≡ true) × Turn C task j.numbers.progress.capacity (standing st qu s j) o (memory st qu t k.numbers.progress.stored k.numbers.progress.cover)))
  Advanced j s t (Ok (worked.Found f)) = SameFound j f
      × (qu.ordered s.queue → qu.ordered t.queue × Turn C task j.numbers.progress.capacity (standing st qu s j) (found f.node) (memory st qu t f.progress.stored f.progress.cover))
  Advanced j s t (Ok (worked.NoPlan x)) = (x.progress.capacity ≡ j.numbers.progress.capacity)
      × (qu.ordered s.queue → qu.ordered t.queue × Turn C task j.numbers.progress.capacity (standing st qu s j) no_plan (memory st qu t x.progress.stored x.progress.cover))
  Advanced j s t (Ok (worked.OutOfSpace x)) = (x.progress.capacity ≡ j.numbers.progress.capacity)
      × (qu.ordered s.queue → qu.ordered t.queue × Turn C task j.numbers.progress.capacity (standing st qu s j) out_of_space (memory st qu t x.progress.stored x.progress.cover))
  Advanced j s t (Err k) = (k ≡ j) × (qu.ordered s.queue → (t ≡ s) × (Intact C task j.numbers.progress.capacity (standing st qu s j) → ⊥))

  -- the steps that are done on the task: as many as the budget where none is the last, else up to the last. Before step n + 1
  -- the tables may be torn; the n steps before it stand
  abbrev pub WorksOn : Searching → ℕ → Tables K S Q → Tables K S Q → Work → Type 0
  WorksOn j b s t (Ok (worked.Searching k, n)) = (n ≡ b) × Same j k
      × (qu.ordered s.queue → qu.ordered t.queue × Goes C task j.numbers.progress.capacity (standing st qu s j) n (standing st qu t k))
  WorksOn j b s t (Ok (worked.Found f, n)) = (n ≤ b) × SameFound j f
      × (qu.ordered s.queue → qu.ordered t.queue × Ends C task j.numbers.progress.capacity (standing st qu s j) n (found f.node) (memory st qu t f.progress.stored f.progress.cover))
  WorksOn j b s t (Ok (worked.NoPlan x, n)) = (n ≤ b) × (x.progress.capacity ≡ j.numbers.progress.capacity)
      × (qu.ordered s.queue → qu.ordered t.queue × Ends C task j.numbers.progress.capacity (standing st qu s j) n no_plan (memory st qu t x.progress.stored x.progress.cover))
  WorksOn j b s t (Ok (worked.OutOfSpace x, n)) = (n ≤ b) × (x.progress.capacity ≡ j.numbers.progress.capacity)
      × (qu.ordered s.queue → qu.ordered t.queue × Ends C task j.numbers.progress.capacity (standing st qu s j) n out_of_space (memory st qu t x.progress.stored x.progress.cover))
  WorksOn j b s t (Err (work.Idle k)) = ⊥
  WorksOn j b s t (Err (work.Torn k n)) = (n < b) × Same j k
      × (qu.ordered s.queue → qu.ordered t.queue × Goes C task j.numbers.progress.capacity (standing st qu s j) n (standing st qu t k) × (Intact C task j.numbers.progress.capacity (standing st qu t k) → ⊥))

module _ {K S Q : Type 0} (C : cost.Ghosts K) (st : store.Ghosts S) (qu : queue.Ghosts Q K) where
  -- working on accepted bodies
  abbrev pub WorksSuited : Bodies → Searching → ℕ → Tables K S Q → Tables K S Q → Work → Type 0
  WorksSuited d j b s t (Ok (w, n)) = Shaped j.shape d × WorksOn C st qu (task_of d) j b s t (Ok (w, n))
  WorksSuited d j b s t (Err (work.Idle k)) = ⊥
  WorksSuited d j b s t (Err (work.Torn k n)) = ((Shaped j.shape d → ⊥) × (n ≡ 0) × (k ≡ j) × (t ≡ s)) ⊎ (Shaped j.shape d × WorksOn C st qu (task_of d) j b s t (Err (work.Torn k n)))

  -- what working with a budget of steps answers. Idle comes first, then the file is looked at, then the tables before each step.
  -- A file that does not suit the job is a ground for torn, too
  abbrev pub Works : List ℕ → Searching → ℕ → Tables K S Q → Tables K S Q → Work → Type 0
  Works file j b s t (Ok (w, n)) = (0 < b) × ((d : Bodies) × Suits file j.shape d × WorksOn C st qu (task_of d) j b s t (Ok (w, n)))
  Works file j b s t (Err (work.Idle k)) = (b ≡ 0) × (k ≡ j) × (t ≡ s)
  Works file j b s t (Err (work.Torn k n)) = (0 < b)
      × ((Unsuited file j.shape × (n ≡ 0) × (k ≡ j) × (t ≡ s))
      ⊎ ((d : Bodies) × Suits file j.shape d × WorksOn C st qu (task_of d) j b s t (Err (work.Torn k n))))

module _ {K S Q : Type 0} where
  -- where no step was done, as after Idle and where the first step finds the tables torn, job and tables are as they were,
  -- whatever the order inside the queue is
  abbrev pub Untouched : Searching → Tables K S Q → Tables K S Q → Work → Type 0
  Untouched j s t (Ok (w, n)) = Unit {0}
  Untouched j s t (Err (work.Idle k)) = (k ≡ j) × (t ≡ s)
  Untouched j s t (Err (work.Torn k n)) = n ≡ 0 → (k ≡ j) × (t ≡ s)
