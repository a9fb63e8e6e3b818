-- What is done with the node's row, and with the result of a move.
use Rattle.std.specs.Prelude.{◌≡◌, ℕ, Some, Ok, Err, Result}
use Rattle.rows.specs.declared.refusals.Refusal.{Refusal}
use Rattle.rows.specs.Rows.{Row}
use Rattle.cost.specs.declared.costs.Cost as cost
use Rattle.store.specs.declared.stores.Store as store
use Rattle.store.specs.Stores.{Uncovered, KeepRefused}
use Rattle.queue.specs.declared.queues.Queue as queue
use Rattle.planning.specs.Plans.{price}
use Rattle.steps.specs.declared.outcomes.Stop.{Stop}
use Rattle.steps.specs.declared.workspaces.Workspace.{Workspace}
use Rattle.steps.specs.Memories.{width, row_at}
use Rattle.steps.specs.Steps.{back, Kept}
use Rattle.steps.specs.Answers.{memory_in, task_in, Lent, ReadyAt, Moved, MoveGranted, MoveCounts}

module _ {K S Q : Type 0} (C : cost.Ghosts K) (st : store.Ghosts S) (qu : queue.Ghosts Q K) (row : Row) (w v : Workspace K S Q) where
  -- the row is kept and nothing else changes, or the store refuses it
  abbrev pub KeepsRow : Result (Unit {0}) Refusal → Type 0
  KeepsRow (Ok x) = Kept C (task_in w) row (memory_in st qu w) (memory_in st qu v)
  KeepsRow (Err e) = KeepRefused (st.table w.store.now) (st.kept w.store.now) (st.space w.store.now) row e

  pub record Keeps (r : Result (Unit {0}) Refusal) : Type 0 where
    pub lent : Lent w v
    pub queue : v.queue.now ≡ w.queue.now
    pub progress : v.progress ≡ w.progress
    pub answer : KeepsRow r

module _ {K S Q : Type 0} (C : cost.Ghosts K) (st : store.Ghosts S) (qu : queue.Ghosts Q K) (m p : ℕ) (row : Row) (w : Workspace K S Q) where
  -- the row is what move m makes of the node's, at the price told, and no kept row covers it
  pub record Fresh : Type 0 where
    pub moved : back (task_in w) m (row_at (width (task_in w)) w.rows.now w.node) ≡ Some row
    pub priced : p ≡ price (task_in w) m
    pub uncovered : Uncovered (st.kept w.store.now) row

  -- such a row is stored, unless there is no space
  pub record Adds (v : Workspace K S Q) (r : Result (Unit {0}) Stop) : Type 0 where
    pub lent : Lent w v
    pub counts : MoveCounts st qu w v r
    pub granted : Fresh → ReadyAt C st qu w w → MoveGranted C st qu w v r
    pub moved : Fresh → qu.ordered w.queue.now → ReadyAt C st qu w w → Moved C st qu w m v r
