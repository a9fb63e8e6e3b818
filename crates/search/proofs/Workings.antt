-- Steps of the work, one after the other.
use Rattle.std.proofs.Common.{◌≡◌, ℕ, ◌+◌, Ok, refl, ◌∙◌, subst, arith}
use Rattle.rows.specs.Tasks.{Task}
use Rattle.cost.specs.declared.costs.Cost as cost
use Rattle.store.specs.declared.stores.Store as store
use Rattle.queue.specs.declared.queues.Queue as queue
use Rattle.uniform.specs.Steps.{Outcome}
use Rattle.steps.specs.declared.tables.Tables.{Tables}
use Rattle.steps.specs.Memories.{Memory, memory}
use Rattle.steps.specs.Turns.{Standing, Turn, Goes, still, onward}
use Rattle.search.specs.declared.jobs.Searching.{Searching}
use Rattle.search.specs.declared.jobs.Worked.{Worked}
use Rattle.search.specs.declared.jobs.Worked.TheVariants as worked
use Rattle.search.specs.Works.{standing, Same, Advanced}

module _ {K S Q : Type 0} (C : cost.Ghosts K) (st : store.Ghosts S) (qu : queue.Ghosts Q K) (task : Task) (from : Searching) (entry : Tables K S Q) where
  -- so many steps of the job that began have led here
  pub record Going (i : ℕ) (s : Tables K S Q) (j : Searching) : Type 0 where
    pub same : Same from j
    pub goes : qu.ordered entry.queue → qu.ordered s.queue × Goes C task from.numbers.progress.capacity (standing st qu entry from) i (standing st qu s j)
    pub start : i ≡ 0 → (j ≡ from) × (s ≡ entry)

  pub going_none : Going 0 entry from
  going_none = record { same = record { shape = refl; capacity = refl }; goes = λ o. (o, still); start = λ e. (refl, refl) }

  turn_at : (a b : ℕ) (h : Standing K) (o : Outcome) (s : Memory K) → a ≡ b → Turn C task a h o s → Turn C task b h o s
  turn_at a b h o s e t = subst (λ z. Turn C task z h o s) e t

  pub going_more : (i : ℕ) (j k : Searching) (s t : Tables K S Q) (w : Worked) → w ≡ worked.Searching k → Going i s j → Advanced C st qu task j s t (Ok w) → Going (i + 1) t k
  going_more i j k s t w e g a =
      let r = subst (λ z. Advanced C st qu task j s t (Ok z)) e a in
      let x = r.0 in
      let y = g.same in
      record {
        same = record { shape = x.shape ∙ y.shape; capacity = x.capacity ∙ y.capacity };
        goes = λ o.
            let h = g.goes o in
            let n = r.2 h.0 in
            (n.0, onward h.1 n.1.1 (turn_at j.numbers.progress.capacity from.numbers.progress.capacity (standing st qu s j) n.1.0 (memory st qu t k.numbers.progress.stored k.numbers.progress.cover) y.capacity n.1.2) (record { keeps = r.1.keeps; waits = r.1.waits }));
        start = λ e. absurd (omega arith);
      }
