-- What reading the plan and the cost of a found job answers, and what the buffer then holds.
use Rattle.std.specs.Prelude.{◌≡◌, ℕ, ◌*◌, ◌<◌, ◌≤◌, List, ◌++◌, length, drop, Ok, Err, Result}
use Rattle.rows.specs.declared.refusals.Refusal.{Refusal}
use Rattle.rows.specs.declared.refusals.Refusal.TheVariants.{Torn, ShortBuffer}
use Rattle.task.specs.Files.{Bodies}
use Rattle.steps.specs.declared.tables.Record.{Record}
use Rattle.steps.specs.declared.tables.Tables.{Tables}
use Rattle.steps.specs.Memories.{At}
use Rattle.chains.specs.Chains.{Chain}
use Rattle.search.specs.declared.jobs.Found.{Found}
use Rattle.search.specs.Files.{Suits}

module _ {K S Q : Type 0} (file : List ℕ) (f : Found) (t : Tables K S Q) where
  -- the job's plan can be read: the file has the variables and moves that the job notes, row bytes and records have space for as
  -- many nodes as its capacity, and the chain of the found node is not broken: these are its moves
  pub record Legible (plan : List ℕ) : Type 0 where
    pub bodies : Bodies
    pub suits : Suits file f.shape bodies
    pub bytes : f.progress.capacity * f.shape.variables ≤ length t.rows.now
    pub records : f.progress.capacity ≤ length t.records.now
    pub chain : Chain t.records.now f.shape.moves f.node plan

  -- the grounds of refusal, in order: Torn exactly if no plan can be read; else Short buffer, if the plan has more moves than the
  -- buffer has cells
  pub record Unread (out : List ℕ) (e : Refusal) : Type 0 where
    pub torn : ((plan : List ℕ) → Legible plan → ⊥) → e ≡ Torn
    pub short : (plan : List ℕ) → Legible plan → (e ≡ ShortBuffer) × (length out < length plan)

  -- the plan is in the buffer's first cells, in the order of doing, and its length is told; later cells keep theirs
  pub record PlanRead (out : List ℕ) (count : ℕ) (after : List ℕ) : Type 0 where
    pub plan : List ℕ
    pub legible : Legible plan
    pub counted : count ≡ length plan
    pub fits : count ≤ length out
    pub written : after ≡ plan ++ drop count out

  -- what plan reading answers, and what the buffer then holds: a refusal leaves it as it was
  abbrev pub ReadsPlan : List ℕ → Result ℕ Refusal → List ℕ → Type 0
  ReadsPlan out (Ok count) after = PlanRead out count after
  ReadsPlan out (Err e) after = Unread out e × (after ≡ out)

  -- the cost noted of the found node is told
  pub record CostRead (k : K) : Type 0 where
    pub plan : List ℕ
    pub legible : Legible plan
    pub noted : Record K
    pub there : At t.records.now f.node noted
    pub is : k ≡ noted.cost

  -- what reading the cost answers: Torn exactly where plan reading does, and nothing else is refused
  abbrev pub ReadsCost : Result K Refusal → Type 0
  ReadsCost (Ok k) = CostRead k
  ReadsCost (Err e) = (e ≡ Torn) × ((plan : List ℕ) → Legible plan → ⊥)
