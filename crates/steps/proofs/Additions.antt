-- What is refused, and what stays of the memory lent.
use Rattle.std.proofs.Common.{◌≡◌, ℕ, Ok, Err, Result, sym, refl, ap, ◌∙◌, subst, arith}
use Rattle.std.specs.Result.{IsErrAnd}
use Rattle.rows.specs.Rows.{Row}
use Rattle.rows.specs.Tasks.{Task}
use Rattle.task.specs.Answers.{held}
use Rattle.task.specs.Files.{task_of}
use Rattle.cost.specs.declared.costs.Cost as cost
use Rattle.store.specs.declared.stores.Store as store
use Rattle.queue.specs.declared.queues.Queue as queue
use Rattle.steps.specs.declared.outcomes.Stop.{Stop}
use Rattle.steps.specs.declared.outcomes.Stop.TheVariants.{Torn, Crowded}
use Rattle.steps.specs.declared.workspaces.Workspace.{Workspace}
use Rattle.steps.specs.Answers.{task_in, Lent, ReadyAt, Grown, Granted}
use Rattle.steps.specs.Results.{Fresh, Adds}

pub refused : {X : Type 0} {s : Stop} (r : Result X Stop) → IsErrAnd r (λ e. e ≡ s) → r ≡ Err s
refused (Err e) h = ap Err h
refused (Ok x) h = absurd h

pub granted_err : (X : Type 0) (Y : Type 0) (s : Stop) (r : Result Y Stop) → IsErrAnd r (λ e. e ≡ s) → Granted {X = X} (Err s) → Granted r
granted_err X Y Torn r h g = absurd g
granted_err X Y Crowded r h g = subst Granted (sym (refused r h)) tt

module _ {K S Q : Type 0} where
  pub lent_same : (w : Workspace K S Q) → Lent w w
  lent_same w = record { accepted = refl; node = refl; capacity = refl; rows = refl; bytes = refl; noted = refl; records = refl; store = refl; queue = refl }

  pub lent_then : {u v w : Workspace K S Q} → Lent u v → Lent v w → Lent u w
  lent_then a b = record {
    accepted = b.accepted ∙ a.accepted;
    node = b.node ∙ a.node;
    capacity = b.capacity ∙ a.capacity;
    rows = b.rows ∙ a.rows;
    bytes = b.bytes ∙ a.bytes;
    noted = b.noted ∙ a.noted;
    records = b.records ∙ a.records;
    store = b.store ∙ a.store;
    queue = b.queue ∙ a.queue;
  }

  -- what holds for the task, capacity and node of one holds for those of the other
  pub lent_at : (w v : Workspace K S Q) (P : Task → ℕ → ℕ → Type 0) → Lent w v → P (task_in v) v.progress.capacity v.node → P (task_in w) w.progress.capacity w.node
  lent_at w v P l h =
      subst (λ a. P (task_of (held a.task)) w.progress.capacity w.node) l.accepted (subst (λ c. P (task_in v) c w.node) l.capacity (subst (λ n. P (task_in v) v.progress.capacity n) l.node h))

  pub lent_from : (w v : Workspace K S Q) (P : Task → ℕ → ℕ → Type 0) → Lent w v → P (task_in w) w.progress.capacity w.node → P (task_in v) v.progress.capacity v.node
  lent_from w v P l h =
      subst (λ a. P (task_of (held a.task)) v.progress.capacity v.node) (sym l.accepted)
      (subst (λ c. P (task_in w) c v.node) (sym l.capacity) (subst (λ n. P (task_in w) w.progress.capacity n) (sym l.node) h))

module _ {K S Q : Type 0} (C : cost.Ghosts K) (st : store.Ghosts S) (qu : queue.Ghosts Q K) (m p : ℕ) (row : Row) (w : Workspace K S Q) where
  pub adds_torn : (r : Result (Unit {0}) Stop) → IsErrAnd r (λ e. e ≡ Torn) → (Fresh C st qu m p row w → ReadyAt C st qu w w → ⊥) → Adds C st qu m p row w w r
  adds_torn r h none = subst (λ z. Adds C st qu m p row w w z) (sym (refused r h)) (record { lent = lent_same w; counts = tt; granted = λ f rd. none f rd; moved = λ f o rd. none f rd })

module _ {K S Q : Type 0} (st : store.Ghosts S) (qu : queue.Ghosts Q K) where
  pub grown_then : {u v w : Workspace K S Q} → Grown st qu u v → Grown st qu v w → Grown st qu u w
  grown_then a b = record {
    more = omega (arith, a.more, b.more);
    store = b.store ∙ a.store;
    waits = omega (arith, a.waits, b.waits);
  }
