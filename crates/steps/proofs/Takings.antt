-- What taking an entry keeps, and the step that it begins.
use Rattle.std.proofs.Common.{◌≡◌, ℕ, ◌+◌, ◌*◌, ◌<◌, ◌≤◌, true, List, ◌∷◌, length, Ok, Err, Result, sym, ap, ◌∙◌, subst, arith}
use Rattle.std.proofs.lemmas.List.Sorted.{length_permutation}
use Rattle.rows.specs.Rows.{fits}
use Rattle.rows.specs.Tasks.{Task}
use Rattle.cost.specs.declared.costs.Cost as cost
use Rattle.queue.specs.declared.entries.Entry.{Entry}
use Rattle.store.specs.declared.stores.Store as store
use Rattle.queue.specs.declared.queues.Queue as queue
use Rattle.uniform.specs.Steps.{out_of_space}
use Rattle.steps.specs.declared.outcomes.Stop.{Stop}
use Rattle.steps.specs.declared.outcomes.Stop.TheVariants.{Torn, Crowded}
use Rattle.steps.specs.declared.outcomes.Visited.{Visited}
use Rattle.steps.specs.declared.workspaces.Workspace.{Workspace}
use Rattle.steps.specs.Memories.{Memory, At, width, row_at}
use Rattle.steps.specs.Steps.{Taken, Visit, takes, Sized, Sound}
use Rattle.steps.specs.Answers.{Steady, Eager, memory_in, task_in, Lent, outcome, Visits, Takes}
use Rattle.steps.proofs.Additions.{lent_at}

module _ {K : Type 0} (C : cost.Ghosts K) (task : Task) (cap : ℕ) where
  pub steady_taken : {n : ℕ} {e : Entry K} {s t : Memory K} → Eager C task cap n s → Taken C task e s t → Steady C task cap n t
  steady_taken {n} {e} {s} {t} eg k =
      let f = eg.fit in
      let lw = length_permutation (e ∷ t.waiting) s.waiting k.rest in
      record {
        ready = record {
          fit = record {
            within = subst (λ z. z ≤ cap) (sym k.stored) f.within;
            short = f.short;
            bytes = subst (λ z. cap * width task ≤ length z) (sym k.bytes) f.bytes;
            records = subst (λ z. cap ≤ length z) (sym k.records) f.records;
            table = k.table ∙ f.table;
            sound = record {
              node = subst (λ z. n < z) (sym k.stored) f.sound.node;
              fit = subst (λ z. fits task.values (row_at (width task) z n) ≡ true) (sym k.bytes) f.sound.fit;
              noted = f.sound.noted;
              there = subst (λ z. At z n f.sound.noted) (sym k.records) f.sound.there;
              joins = f.sound.joins;
            };
          };
          roomy = omega (arith, eg.roomy, k.room, k.stored);
        };
        spare = omega (arith, eg.spare, ap length k.kept, k.space);
      }

  -- once an entry is taken, whichever
  pub steady_fewer : {n : ℕ} (s : Memory K) (w : List (Entry K)) (room : ℕ) → length w + 1 ≡ length s.waiting → room ≡ s.room → Eager C task cap n s
      → Steady C task cap n (record { bytes = s.bytes; records = s.records; table = s.table; kept = s.kept; space = s.space; waiting = w; room = room; stored = s.stored; cover = s.cover })
  steady_fewer s w room e r eg =
      let f = eg.fit in
      let sd = f.sound in
      record {
        ready = record {
          fit = record { within = f.within; short = f.short; bytes = f.bytes; records = f.records; table = f.table; sound = record { node = sd.node; fit = sd.fit; noted = sd.noted; there = sd.there; joins = sd.joins } };
          roomy = omega (arith, eg.roomy, e, r);
        };
        spare = eg.spare;
      }

  -- the sizes and counts are right, something waits, and the node is sound
  pub eager : {n k w : ℕ} {s : Memory K} → Sized C task cap k w s → Sound C task n s → s.stored ≤ cap → cap ≤ 65535 → k + w ≤ s.stored → 0 < w → Eager C task cap n s
  eager z sd le sh kw pos = record {
    fit = record { within = le; short = sh; bytes = z.bytes; records = z.records; table = z.table; sound = sd };
    roomy = omega (arith, z.waits, z.room);
    spare = omega (arith, z.keeps, z.space);
  }

module _ {K S Q : Type 0} (C : cost.Ghosts K) (st : store.Ghosts S) (qu : queue.Ghosts Q K) where
  -- from a taking and a visit, a step
  pub takes_visit : (w mid v : Workspace K S Q) (e : Entry K) (r : Result Visited Stop) → Lent w mid → w.node ≡ e.number → Taken C (task_in w) e (memory_in st qu w) (memory_in st qu mid)
      → Visits C st qu mid v r → Takes C st qu w v r
  takes_visit w mid v e (Ok x) l en tk h =
      let u = lent_at w mid (λ task cap n. Visit C task cap n (memory_in st qu mid) (outcome n x) (memory_in st qu v)) l h.1 in
      (h.0, takes tk (subst (λ z. Visit C (task_in w) w.progress.capacity z (memory_in st qu mid) (outcome w.node x) (memory_in st qu v)) en u))
  takes_visit w mid v e (Err Crowded) l en tk h =
      let u = lent_at w mid (λ task cap n. Visit C task cap n (memory_in st qu mid) out_of_space (memory_in st qu v)) l h.1 in
      (h.0, takes tk (subst (λ z. Visit C (task_in w) w.progress.capacity z (memory_in st qu mid) out_of_space (memory_in st qu v)) en u))
  takes_visit w mid v e (Err Torn) l en tk h = h
