-- Only a job that found node 0 in its first step leaves its tables new.
use Rattle.std.proofs.Common.{◌≡◌, ℕ, ◌<◌, true, false, ◌⊎◌, List, [], ◌∷◌, length, None, Option, sym, refl, ap, ◌∙◌, subst, inl, inr, arith, length-append}
use Rattle.std.proofs.lemmas.Bool.{both_ways}
use Rattle.rows.specs.Rows.{covers}
use Rattle.rows.specs.Tasks.{nth}
use Rattle.task.specs.Files.{Bodies, task_of}
use Rattle.cost.specs.Costs.{Arithmetic}
use Rattle.cost.specs.declared.costs.Cost as cost
use Rattle.store.specs.declared.stores.Store as store
use Rattle.queue.specs.declared.queues.Queue as queue
use Rattle.planning.specs.Lists.{In}
use Rattle.planning.specs.Spaces.{Space}
use Rattle.planning.specs.Regressions.{regression}
use Rattle.planning.proofs.Lists.{nth_below, some_inj}
use Rattle.uniform.specs.Runs.{Node, Run, root, opened}
use Rattle.uniform.specs.Steps.{Outcome, found, no_plan, out_of_space, going, unmoved, covered, stored, Upto, none, more, Step, ends, skips, finds, expands, crowds, After, opening, onward, Ends}
use Rattle.steps.specs.declared.tables.Tables.{Tables}
use Rattle.steps.specs.Memories.{memory}
use Rattle.steps.specs.Holdings.{Held}
use Rattle.search.specs.declared.jobs.Worked.{Worked}
use Rattle.search.specs.declared.jobs.Worked.TheVariants as worked
use Rattle.steps.specs.Begins.{New}
use Rattle.follow.specs.Promises.{AsDefined, AtOnce, OthersUse}
use Rattle.follow.proofs.Holdings.{as_many}
use Rattle.follow.proofs.Promises.{jobs_defined}
use Rattle.follow.proofs.Repeats.{other, found_inj}

module _ (a : Arithmetic) (p : Space) (cap : ℕ) where
  -- moves keep no rows
  upto_kept : {n : ℕ} {x : Node a p} {s : Run a p} {m : ℕ} {t : Run a p} → Upto a p cap n x s m t → t.kept ≡ s.kept
  upto_kept none = refl
  upto_kept (more us (unmoved b)) = upto_kept us
  upto_kept (more us (covered b c)) = upto_kept us
  upto_kept (more us (stored b u lt)) = upto_kept us

  -- after a step that is not the last, a row is kept
  step_keeps : {s t : Run a p} {o : Outcome} → Step a p cap s o t → going o ≡ true → 0 < length t.kept
  step_keeps (ends e) g = absurd (both_ways false refl g)
  step_keeps {s} (skips {rank = rank} l c) g = let z = nth_below s.kept rank c.by c.kept in omega arith
  step_keeps (finds l u m) g = absurd (both_ways false refl g)
  step_keeps {s} (expands {x = x} l u m us) g = omega (arith, ap length (upto_kept us), length-append s.kept (x.row ∷ []))
  step_keeps (crowds l u m us lt c) g = absurd (both_ways false refl g)

  -- a run that goes on has kept a row, or is as it was opened
  kept_or : {i : ℕ} {s : Run a p} → After a p cap i s → (0 < length s.kept) ⊎ ((i ≡ 0) × (s ≡ opened a p))
  kept_or (opening pos) = inr (refl, refl)
  kept_or (onward af g st) = inl (step_keeps st g)

  -- how a run can end with nothing kept and nothing waiting
  record First (o : Outcome) (s : Run a p) : Type 0 where
    node : Node a p
    is : o ≡ found 0
    row : node.row ≡ p.goal
    meets : p.meets node.row ≡ true

  first : {s t : Run a p} {o : Outcome} → s ≡ opened a p → Step a p cap s o t → going o ≡ false → length t.kept ≡ 0 → length t.waiting ≡ 0 → First o s
  first e (ends w) g k z = absurd (omega (arith, ap (λ r. length r.waiting) e))
  first e (skips l c) g k z = absurd (both_ways true g refl)
  first {s} e (finds {n} {x} l u m) g k z = elim (subst (λ r. In n r.waiting) e l.waits) [
    | inl is ↦
        (let at = ap (λ r. nth r.nodes 0) (sym e) ∙ ap (nth s.nodes) (sym is) ∙ l.node in
        record { node = x; is = ap found is; row = sym (ap (λ w. w.row) (some_inj (root a p) x at)); meets = m })
    | inr no' ↦ absurd no'
  ]
  first e (expands l u m us) g k z = absurd (both_ways true g refl)
  first {s} e (crowds {x = x} l u m us lt c) g k z = absurd (omega (arith, ap length (upto_kept us), length-append s.kept (x.row ∷ [])))

  -- an ending keeps what was kept
  ends_kept : {s t : Run a p} {o : Outcome} → Step a p cap s o t → going o ≡ false → length t.kept ≡ 0 → length s.kept ≡ 0
  ends_kept (ends w) g k = k
  ends_kept (skips l c) g k = absurd (both_ways true g refl)
  ends_kept (finds l u m) g k = k
  ends_kept (expands l u m us) g k = absurd (both_ways true g refl)
  ends_kept {s} (crowds {x = x} l u m us lt c) g k = absurd (omega (arith, ap length (upto_kept us), length-append s.kept (x.row ∷ [])))

  at_first : {i : ℕ} {o : Outcome} {t : Run a p} → (e : Ends a p cap i o t) → length t.kept ≡ 0 → length t.waiting ≡ 0 → (i ≡ 1) × First o e.last
  at_first e k w = elim (kept_or e.after) [
    | inl some ↦ absurd (omega (arith, ends_kept e.step e.ended k))
    | inr is ↦ (omega (arith, e.count, is.0), first is.1 e.step e.ended k w)
  ]

module _ {K S Q : Type 0} (C : cost.Ghosts K) (st : store.Ghosts S) (qu : queue.Ghosts Q K) (file : List ℕ) (b : Bodies) where
  -- nothing is kept and nothing waits in the run either
  bare : (t : Tables K S Q) (m : ℕ) (c : Option ℕ) (r : Run C.arithmetic (regression (task_of b))) → Held C (task_of b) (memory st qu t m c) r → New (task_of b) (memory st qu t 0 None) → (length r.kept ≡ 0) × (length r.waiting ≡ 0)
  bare t m c r h new = (ap length (sym h.kept ∙ new.kept), sym (as_many C (task_of b) (memory st qu t m c) r h) ∙ ap length new.waiting)

  once : (n : ℕ) (t : Tables K S Q) (w : Worked) → AsDefined C st qu file b n t w → New (task_of b) (memory st qu t 0 None) → AtOnce b n w
  once n t (worked.Searching j) (r, after, held, ample) new =
      let z = bare t j.numbers.progress.stored j.numbers.progress.cover r held new in
      let k = z.0 in
      let w = z.1 in
      elim (kept_or C.arithmetic (regression (task_of b)) j.numbers.progress.capacity after) [
        | inl some ↦ absurd (omega arith)
        | inr is ↦ absurd (omega (arith, ap (λ q. length q.waiting) is.1))
      ]
  once n t (worked.Found f) (r, en, held, ample, suits) new =
      let z = bare t f.progress.stored f.progress.cover r held new in
      let g = at_first C.arithmetic (regression (task_of b)) f.progress.capacity en z.0 z.1 in
      record {
        job = f;
        is = refl;
        node = found_inj f.node 0 g.1.is;
        steps = g.0;
        easy = ap (λ q. covers q b.start) (sym g.1.row) ∙ g.1.meets;
      }
  once n t (worked.NoPlan x) (r, en, held, ample) new =
      let z = bare t x.progress.stored x.progress.cover r held new in
      other no_plan (found 0) (at_first C.arithmetic (regression (task_of b)) x.progress.capacity en z.0 z.1).1.is (λ e. omega arith)
  once n t (worked.OutOfSpace x) (r, en, held, ample) new =
      let z = bare t x.progress.stored x.progress.cover r held new in
      other out_of_space (found 0) (at_first C.arithmetic (regression (task_of b)) x.progress.capacity en z.0 z.1).1.is (λ e. omega arith)

module _ {K S Q : Type 0} (C : cost.Ghosts K) (st : store.Ghosts S) (qu : queue.Ghosts Q K) where
  pub others_use : OthersUse C st qu
  others_use file b s t n w reads h new = once C st qu file b n t w (jobs_defined C st qu file b s t n w reads h) new
