-- Where tables hold a run, a step of the tables is a step of the run, and they are not torn.
use Rattle.std.proofs.Common.{◌≡◌, ℕ, ◌<◌, true, [], ◌∷◌, length, Some, None, Option, sym, ap, ◌∙◌, subst, inl, inr, arith, length-append}
use Rattle.std.proofs.lemmas.List.{nil_from_length}
use Rattle.rows.specs.Rows.{Row, fits, covers}
use Rattle.rows.specs.Tasks.{Task, nth, Accepted}
use Rattle.rows.proofs.Both.{both_length}
use Rattle.cost.specs.declared.costs.Cost as cost
use Rattle.store.specs.Stores as store
use Rattle.queue.specs.declared.entries.Entry.{Entry}
use Rattle.planning.specs.Lists.{In}
use Rattle.planning.specs.Regressions.{regression}
use Rattle.planning.proofs.Lists.{nth_some, nth_below, nth_left, in_push}
use Rattle.planning.proofs.Regressions.{regression_lawful}
use Rattle.uniform.specs.Runs.{Node, Run, CoverAt, Uncovered, answered, taken, keeping, storing, child}
use Rattle.uniform.specs.Runs as runs
use Rattle.uniform.specs.Steps.{Outcome}
use Rattle.uniform.specs.Steps as run
use Rattle.uniform.specs.Promises.{Orderly}
use Rattle.uniform.proofs.Waits.{in_without}
use Rattle.uniform.proofs.Goods.{runs_orderly}
use Rattle.steps.specs.Memories.{Memory, width, row_at}
use Rattle.steps.specs.Steps.{One, unmoved, covered, stores, Crowded, Upto, none, more, Kept, Taken, Visit, skips, finds, expands, crowds, Step, ends, takes}
use Rattle.steps.specs.Steps as steps
use Rattle.steps.specs.Holdings.{Held, Ample, StepsAlike, NeverTorn}
use Rattle.follow.proofs.Holdings.{cover_at, uncovered, held_answered, held_taken, held_kept, held_stored, ample_taken, ample_kept, ample_answered, ample_stored, least_is, sound_is, as_many, waits}

module _ {K : Type 0} (C : cost.Ghosts K) (task : Task) (acc : Accepted task) (cap : ℕ) where
  -- while moves are tried at node n, x: the tables hold the run and have the space, the node is stored and its row fits, and so
  -- is every node that waits
  record Amid (n : ℕ) (x : Node C.arithmetic (regression task)) (s : Memory K) (r : Run C.arithmetic (regression task)) : Type 0 where
    held : Held C task s r
    ample : Ample C task cap s
    node : nth r.nodes n ≡ Some x
    fit : fits task.values x.row ≡ true
    stored : (i : ℕ) → In i r.waiting → i < length r.nodes

  -- what a move makes of the node's row in the tables, it makes of the node
  moved : {n : ℕ} {x : Node C.arithmetic (regression task)} {s : Memory K} {r : Run C.arithmetic (regression task)} (m : ℕ) (o : Option Row) → Amid n x s r
      → steps.back task m (row_at (width task) s.bytes n) ≡ o → (regression task).back m x.row ≡ o
  moved {n} {x} m o am b = ap (steps.back task m) (sym (am.held.nodes n x am.node).row) ∙ b

  one_alike : {n m : ℕ} {x : Node C.arithmetic (regression task)} {s t : Memory K} {r : Run C.arithmetic (regression task)} → Amid n x s r → One C task cap n m s t
      → (q : Run C.arithmetic (regression task)) × run.One C.arithmetic (regression task) cap n x m r q × Amid n x t q
  one_alike {m = m} {r = r} am (unmoved b) = (r, run.unmoved (moved m None am b), am)
  one_alike {m = m} {s = s} {r = r} am (covered {r = row} {k} b c) = (
    answered C.arithmetic (regression task) r k,
    run.covered (moved m (Some row) am b) (cover_at C task s r row k am.held c),
    record { held = held_answered C task s r k am.held; ample = ample_answered C task cap s k am.ample; node = am.node; fit = am.fit; stored = am.stored },
  )
  one_alike {n} {m} {x} {s} {t} {r} am (stores {r = row} {c} b u lt j k) =
      let a = C.arithmetic in
      let p = regression task in
      let back = moved m (Some row) am b in
      let y : Node a p = child a p n x m row in
      let long : length row ≡ width task = sym (both_length _ task.values row ((regression_lawful task acc).lawful.back_fits m x.row row am.fit back)) in (
        storing a p r y,
        run.stored back (uncovered C task s r row am.held u) (omega (arith, am.held.stored)),
        record {
          held = held_stored C task cap n m row c s t r x long lt am.ample am.node am.stored am.held j k;
          ample = ample_stored C task cap n m row c s t long lt am.ample k;
          node = nth_left r.nodes (y ∷ []) n (nth_below r.nodes n x am.node) ∙ am.node;
          fit = am.fit;
          stored = λ i w. elim (in_push i (length r.nodes) r.waiting w) [
            | inl e ↦ omega (arith, length-append r.nodes (y ∷ []))
            | inr v ↦ (let l = am.stored i v in omega (arith, length-append r.nodes (y ∷ [])))
          ];
        },
      )

  upto_alike : {n : ℕ} {x : Node C.arithmetic (regression task)} {s : Memory K} {r : Run C.arithmetic (regression task)} → Amid n x s r → {m : ℕ} {t : Memory K} → Upto C task cap n s m t
      → (q : Run C.arithmetic (regression task)) × run.Upto C.arithmetic (regression task) cap n x r m q × Amid n x t q
  upto_alike {r = r} am none = (r, run.none, am)
  upto_alike am (more us o) =
      let f = upto_alike am us in
      let g = one_alike f.2 o in
      (g.0, run.more f.1 g.1, g.2)

  crowded_alike : {n m : ℕ} {x : Node C.arithmetic (regression task)} {s : Memory K} {r : Run C.arithmetic (regression task)} → Amid n x s r → Crowded C task cap n m s → run.Crowded C.arithmetic (regression task) cap x m r
  crowded_alike {m = m} {s = s} {r = r} am c = record {
    row = c.result;
    result = moved m (Some c.result) am c.moved;
    uncovered = uncovered C task s r c.result am.held c.uncovered;
    full = omega (arith, c.full, am.held.stored);
  }

  -- the entry is taken: its node is the least
  record Begun (e : Entry K) (r : Run C.arithmetic (regression task)) (t : Memory K) : Type 0 where
    node : Node C.arithmetic (regression task)
    least : runs.Least C.arithmetic (regression task) r e.number node
    amid : Amid e.number node t (taken C.arithmetic (regression task) r e.number)

  begun : (e : Entry K) (s t : Memory K) (r : Run C.arithmetic (regression task)) → Orderly C.arithmetic (regression task) cap r → Ample C task cap s → Held C task s r → Taken C task e s t → Begun e r t
  begun e s t r or am h k =
      let i = waits C task s r e h k.least.there in
      let f = nth_some r.nodes e.number (or.stored e.number i) in
      record {
        node = f.0;
        least = least_is C task s r e f.0 h k.least f.1;
        amid = record {
          held = held_taken C task e s t r h k;
          ample = ample_taken C task cap e s t am k;
          node = f.1;
          fit = or.fit e.number f.0 f.1;
          stored = λ m w. or.stored m (in_without e.number m r.waiting w);
        };
      }

  -- the row of the node that is visited
  row_is : {n : ℕ} {x : Node C.arithmetic (regression task)} {t : Memory K} {r : Run C.arithmetic (regression task)} → Amid n x t r → row_at (width task) t.bytes n ≡ x.row
  row_is {n} {x} am = (am.held.nodes n x am.node).row

  kept_alike : {n : ℕ} {x : Node C.arithmetic (regression task)} {s t : Memory K} {r : Run C.arithmetic (regression task)} → Amid n x s r → Kept C task (row_at (width task) s.bytes n) s t
      → Amid n x t (keeping C.arithmetic (regression task) r x.row)
  kept_alike {n} {x} {s} {t} {r} am k =
      let k' : Kept C task x.row s t = subst (λ z. Kept C task z s t) (row_is am) k in
      record { held = held_kept C task x.row s t r am.held k'; ample = ample_kept C task cap x.row s t am.ample k'; node = am.node; fit = am.fit; stored = am.stored }

  free : {e : Entry K} {r : Run C.arithmetic (regression task)} {s : Memory K} (b : Begun e r s) → store.Uncovered s.kept (row_at (width task) s.bytes e.number)
      → Uncovered C.arithmetic (regression task) r.kept b.node.row
  free {e} {r} {s} b u =
      uncovered C task s (taken C.arithmetic (regression task) r e.number) b.node.row b.amid.held (subst (λ z. store.Uncovered s.kept z) (row_is b.amid) u)

  abbrev Follows : Run C.arithmetic (regression task) → Outcome → Memory K → Type 0
  Follows r o t = (q : Run C.arithmetic (regression task)) × run.Step C.arithmetic (regression task) cap r o q × Held C task t q × Ample C task cap t

  visit_alike : {e : Entry K} {r : Run C.arithmetic (regression task)} {s t : Memory K} {o : Outcome} → Begun e r s → Visit C task cap e.number s o t → Follows r o t
  visit_alike {e} {r} {s} b (skips {k} c) =
      let q = taken C.arithmetic (regression task) r e.number in
      let c' = subst (λ z. store.CoverAt s.kept z k) (row_is b.amid) c in
      (answered C.arithmetic (regression task) q k, run.skips b.least (cover_at C task s q b.node.row k b.amid.held c'), held_answered C task s q k b.amid.held, ample_answered C task cap s k b.amid.ample)
  visit_alike {e} {r} {s} b (finds u m) =
      let q = taken C.arithmetic (regression task) r e.number in
      (q, run.finds b.least (free b u) (ap (λ z. covers z task.start) (sym (row_is b.amid)) ∙ m), b.amid.held, b.amid.ample)
  visit_alike {e} {r} {s} b (expands u m k us) =
      let f = upto_alike (kept_alike b.amid k) us in
      (f.0, run.expands b.least (free b u) (ap (λ z. covers z task.start) (sym (row_is b.amid)) ∙ m) f.1, f.2.held, f.2.ample)
  visit_alike {e} {r} {s} b (crowds {m = n} u m k us lt c) =
      let f = upto_alike (kept_alike b.amid k) us in
      (f.0, run.crowds b.least (free b u) (ap (λ z. covers z task.start) (sym (row_is b.amid)) ∙ m) f.1 lt (crowded_alike f.2 c), f.2.held, f.2.ample)

  pub step_alike : {s t : Memory K} {r : Run C.arithmetic (regression task)} {o : Outcome} → Orderly C.arithmetic (regression task) cap r → Ample C task cap s → Held C task s r → Step C task cap s o t → Follows r o t
  step_alike {s} {r = r} or am h (ends e) = (r, run.ends (nil_from_length r.waiting (sym (as_many C task s r h) ∙ ap length e)), h, am)
  step_alike {s} {r = r} or am h (takes {e} {t} k v) = visit_alike (begun e s t r or am h k) v

module _ {K : Type 0} (C : cost.Ghosts K) (task : Task) where
  pub steps_alike : StepsAlike C task
  steps_alike cap i s t r o acc am af h st = step_alike C task acc cap (runs_orderly C.arithmetic (regression task) (regression_lawful task acc).lawful cap i r af) am h st

  pub never_torn : NeverTorn C task
  never_torn cap i s r acc am af h =
      let or = runs_orderly C.arithmetic (regression task) (regression_lawful task acc).lawful cap i r af in
      record {
        sized = record { bytes = am.bytes; records = am.records; table = am.table; keeps = ap length h.kept; waits = as_many C task s r h; space = am.space; room = am.room };
        least = λ n named.
            let e = named.0 in
            let f = nth_some r.nodes e.number (or.stored e.number (waits C task s r e h named.1.there)) in
            subst (λ z. steps.Sound C task z s) (sym named.2) (sound_is C task s r e.number f.0 h f.1 (or.fit e.number f.0 f.1));
      }
