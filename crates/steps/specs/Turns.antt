-- Turns of the work: before each step the tables are looked at, and a step is done only from tables that are not torn.
use Rattle.std.specs.Prelude.{◌≡◌, ℕ, ◌+◌, ◌<◌, ◌≤◌, true, false, length, Ok, Err, Result}
use Rattle.rows.specs.declared.refusals.Refusal.{Refusal}
use Rattle.rows.specs.declared.refusals.Refusal.TheVariants.{Torn}
use Rattle.rows.specs.Tasks.{Task}
use Rattle.cost.specs.declared.costs.Cost as cost
use Rattle.store.specs.declared.stores.Store as store
use Rattle.queue.specs.declared.queues.Queue as queue
use Rattle.uniform.specs.Steps.{Outcome, found, no_plan, out_of_space, going}
use Rattle.steps.specs.declared.tables.Tables.{Tables}
use Rattle.steps.specs.declared.numbers.Numbers.{Numbers}
use Rattle.steps.specs.declared.numbers.Turned.{Turned}
use Rattle.steps.specs.declared.numbers.Turned.TheVariants as turned
use Rattle.steps.specs.Memories.{Memory, memory}
use Rattle.steps.specs.Steps.{Step, Whole}

-- what the tables mean, and how many rows kept and entries waiting the job knows of
pub record Standing (K : Type 0) : Type 0 where
  pub memory : Memory K
  pub keeps : ℕ
  pub waits : ℕ

abbrev pub standing : {K S Q : Type 0} → store.Ghosts S → queue.Ghosts Q K → Tables K S Q → Numbers → Standing K
standing st qu t j = record { memory = memory st qu t j.progress.stored j.progress.cover; keeps = j.kept; waits = j.waiting }

module _ {K : Type 0} (C : cost.Ghosts K) (task : Task) (cap : ℕ) where
  -- the tables are not torn
  abbrev pub Intact : Standing K → Type 0
  Intact h = Whole C task cap h.keeps h.waits h.memory

  -- a step from tables that are not torn
  pub record Turn (h : Standing K) (o : Outcome) (s : Memory K) : Type 0 where
    pub whole : Intact h
    pub step : Step C task cap h.memory o s

  -- the job knows how full the tables are
  pub record Known (h : Standing K) : Type 0 where
    pub keeps : h.keeps ≡ length h.memory.kept
    pub waits : h.waits ≡ length h.memory.waiting

  -- so many steps, none of which was the last
  pub data Goes (h : Standing K) : ℕ → Standing K → Type 0 where
    still : Goes h 0 h
    onward : {i : ℕ} {g k : Standing K} {o : Outcome} → Goes h i g → going o ≡ true → Turn g o k.memory → Known k → Goes h (i + 1) k

  -- so many steps, the last of which ended so
  pub record Ends (h : Standing K) (steps : ℕ) (o : Outcome) (s : Memory K) : Type 0 where
    pub before : ℕ
    pub last : Standing K
    pub goes : Goes h before last
    pub turn : Turn last o s
    pub ended : going o ≡ false
    pub count : steps ≡ before + 1

module _ {K S Q : Type 0} (C : cost.Ghosts K) (st : store.Ghosts S) (qu : queue.Ghosts Q K) (task : Task) where
  -- what a turn answers: a step, or that the tables are torn
  abbrev pub Turns : Numbers → Tables K S Q → Tables K S Q → Result Turned Refusal → Type 0
  Turns j s t (Err e) = (t ≡ s) × (Intact C task j.progress.capacity (standing st qu s j) → ⊥)
  Turns j s t (Ok (turned.Onward k)) =
      qu.ordered t.queue × ((o : Outcome) × (going o ≡ true) × Turn C task j.progress.capacity (standing st qu s j) o (memory st qu t k.progress.stored k.progress.cover))
  Turns j s t (Ok (turned.Found n)) = qu.ordered t.queue × Turn C task j.progress.capacity (standing st qu s j) (found n) (memory st qu t j.progress.stored j.progress.cover)
  Turns j s t (Ok turned.NoPlan) = (t ≡ s) × Turn C task j.progress.capacity (standing st qu s j) no_plan (memory st qu s j.progress.stored j.progress.cover)
  Turns j s t (Ok (turned.OutOfSpace p)) = qu.ordered t.queue × Turn C task j.progress.capacity (standing st qu s j) out_of_space (memory st qu t p.stored p.cover)

  -- what holds of the counts whatever the order inside the queue is: the capacity stays, a job that goes on knows how full the
  -- tables are, a found node is stored, and no more nodes are than the capacity
  abbrev pub Counts : Numbers → Tables K S Q → Result Turned Refusal → Type 0
  Counts j t (Err e) = e ≡ Torn
  Counts j t (Ok (turned.Onward k)) = (k.progress.capacity ≡ j.progress.capacity) × Known C task j.progress.capacity (standing st qu t k)
  Counts j t (Ok (turned.Found n)) = n < j.progress.stored
  Counts j t (Ok turned.NoPlan) = Unit {0}
  Counts j t (Ok (turned.OutOfSpace p)) = (p.stored ≤ j.progress.capacity) × (p.capacity ≡ j.progress.capacity)

module _ {K S Q : Type 0} where
  -- torn tables, and tables in which nothing waits, are left as they were, whatever the order inside the queue is
  abbrev pub Unmoved : Tables K S Q → Tables K S Q → Result Turned Refusal → Type 0
  Unmoved s t (Err e) = t ≡ s
  Unmoved s t (Ok (turned.Onward k)) = Unit {0}
  Unmoved s t (Ok (turned.Found n)) = Unit {0}
  Unmoved s t (Ok turned.NoPlan) = t ≡ s
  Unmoved s t (Ok (turned.OutOfSpace p)) = Unit {0}
