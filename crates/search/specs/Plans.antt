-- Reading the plan and the cost of a found job, on accepted bodies.
use Rattle.std.specs.Prelude.{◌≡◌, ℕ, ◌*◌, ◌≤◌, ◌⊎◌, List, length, Ok, Err, Result}
use Rattle.rows.specs.declared.refusals.Refusal.{Refusal}
use Rattle.rows.specs.declared.refusals.Refusal.TheVariants.{Torn}
use Rattle.task.specs.Files.{Bodies, width, move_count}
use Rattle.steps.specs.declared.tables.Record.{Record}
use Rattle.steps.specs.declared.tables.Tables.{Tables}
use Rattle.steps.specs.Memories.{At}
use Rattle.chains.specs.Chains.{Chain, Broken, Reading}
use Rattle.search.specs.declared.jobs.Found.{Found}
use Rattle.search.specs.Files.{Shaped}

-- row bytes, at so many to a row, and records have space for as many nodes as the job's capacity
abbrev pub Roomy : {K S Q : Type 0} → ℕ → Found → Tables K S Q → Type 0
Roomy v f t = (f.progress.capacity ≤ length t.records.now) × (f.progress.capacity * v ≤ length t.rows.now)

module _ {K S Q : Type 0} (b : Bodies) (f : Found) (t : Tables K S Q) where
  -- the bodies have the shape that the job notes, and the tables are large enough
  abbrev pub Serves : Type 0
  Serves = Shaped f.shape b × Roomy (width b) f t

  -- reading the plan: Torn, and nothing written, if they do not serve; else what reading the found node's chain answers
  abbrev pub PlansOn : List ℕ → Result ℕ Refusal → List ℕ → Type 0
  PlansOn out r after = ((Serves → ⊥) × (r ≡ Err Torn) × (after ≡ out)) ⊎ (Serves × Reading t.records.now (move_count b) f.node out r after)

  -- the found node has a chain, and this is its cost
  pub record Costed (k : K) : Type 0 where
    pub plan : List ℕ
    pub chain : Chain t.records.now (move_count b) f.node plan
    pub noted : Record K
    pub there : At t.records.now f.node noted
    pub is : k ≡ noted.cost

  -- reading the cost: Torn exactly if they do not serve or the chain is broken
  abbrev pub CostsOn : Result K Refusal → Type 0
  CostsOn (Ok k) = Serves × Costed k
  CostsOn (Err e) = (e ≡ Torn) × (Serves → Broken t.records.now (move_count b) f.node)
