-- What a visit keeps, and how it ends.
use Rattle.std.proofs.Common.{◌≡◌, ℕ, ◌*◌, ◌<◌, ◌≤◌, true, false, Ok, Err, Result, length, sym, ap, ◌∙◌, subst, arith}
use Rattle.std.specs.Result.{IsErrAnd}
use Rattle.rows.specs.declared.refusals.Refusal.{Refusal}
use Rattle.rows.specs.Rows.{Row, fits, covers}
use Rattle.rows.specs.Tasks.{Task}
use Rattle.cost.specs.declared.costs.Cost as cost
use Rattle.steps.specs.Memories.{Memory, At, width, row_at}
use Rattle.store.specs.declared.stores.Store as store
use Rattle.store.specs.Stores.{Uncovered}
use Rattle.store.proofs.Known.{only_full, not_held}
use Rattle.queue.specs.declared.queues.Queue as queue
use Rattle.steps.specs.declared.outcomes.Stop.{Stop}
use Rattle.steps.specs.declared.outcomes.Stop.TheVariants.{Torn, Crowded}
use Rattle.steps.specs.declared.outcomes.Visited.{Visited}
use Rattle.steps.specs.declared.workspaces.Workspace.{Workspace}
use Rattle.steps.specs.Steps.{Kept, Upto, Crowded as Crowds, crowds}
use Rattle.steps.specs.Answers.{Fit, Ready, Steady, ReadyAt, SteadyAt, memory_in, task_in, Lent, Expands, Visits}
use Rattle.steps.specs.Results.{KeepsRow, Keeps}
use Rattle.steps.proofs.Additions.{refused, lent_at, lent_from}

module _ {K : Type 0} (C : cost.Ghosts K) (task : Task) (cap : ℕ) where
  pub fit_kept : {n : ℕ} {r : Row} {s t : Memory K} → Fit C task cap n s → Kept C task r s t → Fit C task cap n t
  fit_kept {n} {r} {s} {t} f k = record {
    within = subst (λ z. z ≤ cap) (sym k.stored) f.within;
    short = f.short;
    bytes = subst (λ z. cap * width task ≤ length z) (sym k.bytes) f.bytes;
    records = subst (λ z. cap ≤ length z) (sym k.records) f.records;
    table = k.table ∙ f.table;
    sound = record {
      node = subst (λ z. n < z) (sym k.stored) f.sound.node;
      fit = subst (λ z. fits task.values (row_at (width task) z n) ≡ true) (sym k.bytes) f.sound.fit;
      noted = f.sound.noted;
      there = subst (λ z. At z n f.sound.noted) (sym k.records) f.sound.there;
      joins = f.sound.joins;
    };
  }

  pub ready_kept : {n : ℕ} {r : Row} {s t : Memory K} → Steady C task cap n s → Kept C task r s t → Ready C task cap n t
  ready_kept {n} {r} {s} {t} st k = record {
    fit = fit_kept st.ready.fit k;
    roomy = omega (arith, st.ready.roomy, ap length k.waiting, k.room, k.stored);
  }

module _ {K S Q : Type 0} (C : cost.Ghosts K) (st : store.Ghosts S) (qu : queue.Ghosts Q K) where
  -- tables that are steady keep a row that no kept row covers
  pub keep_granted : (w v : Workspace K S Q) (row : Row) (e : Refusal) → fits (st.table w.store.now) row ≡ true → Uncovered (st.kept w.store.now) row → KeepsRow C st qu row w v (Err e) → SteadyAt C st qu w w → ⊥
  keep_granted w v row e f u k sd = omega (arith, (only_full _ _ _ row e f (not_held _ row u) k).1, sd.spare)

  -- once the node's row is kept, they are ready for its moves
  pub ready_next : (w v : Workspace K S Q) (row : Row) → Keeps C st qu row w v (Ok tt) → SteadyAt C st qu w w → ReadyAt C st qu v v
  ready_next w v row k sd = lent_from w v (λ task cap n. Ready C task cap n (memory_in st qu v)) k.lent (ready_kept C (task_in w) w.progress.capacity sd k.answer)

  -- a visit that breaks off, by how its expansion did
  pub visits_stop : (w mid v : Workspace K S Q) (s : Stop) (r : Result Visited Stop) → IsErrAnd r (λ e. e ≡ s) → Lent w mid
      → Uncovered (st.kept w.store.now) (row_at (width (task_in w)) w.rows.now w.node) → covers (row_at (width (task_in w)) w.rows.now w.node) (task_in w).start ≡ false
      → Kept C (task_in w) (row_at (width (task_in w)) w.rows.now w.node) (memory_in st qu w) (memory_in st qu mid) → Expands C st qu mid v (Err s) → Visits C st qu w v r
  visits_stop w mid v Torn r e l u f k h = absurd h
  visits_stop w mid v Crowded r e l u f k h =
      let x = lent_at w mid (λ task cap n. (m : ℕ) × (m < length task.moves) × Upto C task cap n (memory_in st qu mid) m (memory_in st qu v) × Crowds C task cap n m (memory_in st qu v)) l h.1 in
      subst (Visits C st qu w v) (sym (refused r e)) (h.0, crowds u f k x.2 x.1 x.3)
