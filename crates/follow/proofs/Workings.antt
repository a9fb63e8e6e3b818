-- Steps of tables that hold a run are steps of the run, however many.
use Rattle.std.proofs.Common.{◌≡◌, ℕ, ◌+◌, length, sym, ap, ◌∙◌, subst, arith}
use Rattle.rows.specs.Tasks.{Task, Accepted}
use Rattle.cost.specs.declared.costs.Cost as cost
use Rattle.planning.specs.Regressions.{regression}
use Rattle.uniform.specs.Runs.{Run}
use Rattle.uniform.specs.Steps.{Outcome}
use Rattle.uniform.specs.Steps as run
use Rattle.steps.specs.Memories.{Memory}
use Rattle.steps.specs.Steps.{Whole}
use Rattle.steps.specs.Turns.{Standing, Intact, Goes, still, onward, Ends}
use Rattle.steps.specs.Holdings.{Held, Ample}
use Rattle.follow.specs.Workings.{Follows, WorksAlike}
use Rattle.follow.proofs.Follows.{steps_alike, never_torn}
use Rattle.follow.proofs.Holdings.{as_many}

module _ {K : Type 0} (C : cost.Ghosts K) (task : Task) (acc : Accepted task) (cap : ℕ) where
  pub intact : {i : ℕ} {h : Standing K} {r : Run C.arithmetic (regression task)} → Follows C task cap i h r → Intact C task cap h
  intact {i} {h} {r} f =
      let w = never_torn C task cap i h.memory r acc f.ample f.after f.held in
      let ek : length r.kept ≡ h.keeps = sym (f.known.keeps ∙ ap length f.held.kept) in
      let ew : length r.waiting ≡ h.waits = sym (f.known.waits ∙ as_many C task h.memory r f.held) in
      subst (λ z. Whole C task cap h.keeps z h.memory) ew (subst (λ z. Whole C task cap z (length r.waiting) h.memory) ek w)

  -- the run that the tables hold after steps
  abbrev pub Following : ℕ → Standing K → Type 0
  Following i h = (r : Run C.arithmetic (regression task)) × Follows C task cap i h r

  pub goes : {i : ℕ} {h : Standing K} → Following i h → {n : ℕ} {g : Standing K} → Goes C task cap h n g → Following (i + n) g
  goes {i} {h} f still = subst (λ z. Following z h) (omega arith) f
  goes {i} {h} f (onward {i = n} {g = g} {k = k} {o = o} gs on turn known) =
      let w = goes f gs in
      let u = steps_alike C task cap (i + n) g.memory k.memory w.0 o acc w.1.ample w.1.after w.1.held turn.step in
      subst (λ z. Following z k) (omega arith) (u.0, record { after = run.onward w.1.after on u.1; held = u.2; ample = u.3; known = known })

  pub ends : {i : ℕ} {h : Standing K} (n : ℕ) (o : Outcome) (t : Memory K) → Following i h → Ends C task cap h n o t
      → (q : Run C.arithmetic (regression task)) × run.Ends C.arithmetic (regression task) cap (i + n) o q × Held C task t q × Ample C task cap t
  ends {i} {h} n o t f e =
      let w = goes f e.goes in
      let u = steps_alike C task cap (i + e.before) e.last.memory t w.0 o acc w.1.ample w.1.after w.1.held e.turn.step in
      (u.0, record { before = i + e.before; last = w.0; after = w.1.after; step = u.1; ended = e.ended; count = omega (arith, e.count) }, u.2, u.3)

module _ {K : Type 0} (C : cost.Ghosts K) (task : Task) where
  pub works_alike : WorksAlike C task
  works_alike = record {
    intact = λ cap i h r acc f. intact C task acc cap f;
    goes = λ cap i n h g r acc f gs. goes C task acc cap (r, f) gs;
    ends = λ cap i n h o t r acc f e. ends C task acc cap n o t (r, f) e;
  }
