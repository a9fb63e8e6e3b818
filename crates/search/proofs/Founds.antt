-- From a file that is read, what reading the plan and the cost of a found job answers.
use Rattle.std.proofs.Common.{◌≡◌, ℕ, ◌*◌, ◌<◌, ◌≤◌, List, ◌++◌, length, get_or, drop, Ok, Err, Result, sym, refl, ap, ◌∙◌, subst, inl, inr, arith}
use Rattle.rows.specs.declared.refusals.Refusal.{Refusal}
use Rattle.rows.specs.declared.refusals.Refusal.TheVariants.{Torn}
use Rattle.task.specs.Files.{Bodies, move_count, reading}
use Rattle.task.proofs.Readings.{read_one}
use Rattle.planning.proofs.Lists.{nth_some}
use Rattle.steps.specs.declared.tables.Record.{Record}
use Rattle.steps.specs.declared.tables.Tables.{Tables}
use Rattle.chains.specs.Chains.{Chain, Refused, torn, short}
use Rattle.chains.proofs.Chains.{nth_reads, never_both, one_chain}
use Rattle.search.specs.declared.jobs.Found.{Found}
use Rattle.search.specs.Files.{Shaped}
use Rattle.search.specs.Plans.{Serves, PlansOn, Costed, CostsOn}
use Rattle.search.specs.Reads.{Legible, Unread, ReadsPlan, ReadsCost}

-- the cost that is read at the found node's place is that of its record
pub costed : {K S Q : Type 0} (b : Bodies) (f : Found) (t : Tables K S Q) (ns : List ℕ) (k : K) → f.node < length t.records.now → Chain t.records.now (move_count b) f.node ns
    → ((d : Record K) → k ≡ (get_or t.records.now f.node d).cost) → Costed b f t k
costed b f t ns k lt c read =
    let s = nth_some t.records.now f.node lt in
    let at = nth_reads t.records.now f.node s.0 s.1 s.0 in
    record { plan = ns; chain = c; noted = s.0; there = record { below = lt; is = at }; is = read s.0 ∙ ap (λ z. z.cost) at }

err_torn : {T : Type 0} (e : Refusal) → ◌≡◌ {A = Result T Refusal} (Err e) (Err Torn) → e ≡ Torn
err_torn e h = cc

ok_torn : {T : Type 0} (x : T) → ◌≡◌ {A = Result T Refusal} (Ok x) (Err Torn) → ⊥
ok_torn x h = let z : ◌≡◌ {A = ℕ} 0 1 = cc in omega arith

module _ {K S Q : Type 0} (file : List ℕ) (b : Bodies) (f : Found) (t : Tables K S Q) (reads : reading file ≡ Ok b) where
  legible : (plan : List ℕ) → Serves b f t → Chain t.records.now (move_count b) f.node plan → Legible file f t plan
  legible plan s c = record {
    bodies = b;
    suits = record { reads = reads; shaped = s.0 };
    bytes = subst (λ z. f.progress.capacity * z ≤ length t.rows.now) s.0.0 s.1.1;
    records = s.1.0;
    chain = subst (λ z. Chain t.records.now z f.node plan) s.0.1 c;
  }

  serves : (plan : List ℕ) → Legible file f t plan → Serves b f t
  serves plan l =
      let h = subst (Shaped f.shape) (read_one file l.bodies b l.suits.reads reads) l.suits.shaped in
      (h, (l.records, subst (λ z. f.progress.capacity * z ≤ length t.rows.now) (sym h.0) l.bytes))

  chained : (plan : List ℕ) → Legible file f t plan → Chain t.records.now (move_count b) f.node plan
  chained plan l = subst (λ z. Chain t.records.now z f.node plan) (sym (serves plan l).0.1) l.chain

  unread : (out : List ℕ) (e : Refusal) → Serves b f t → Refused t.records.now (move_count b) f.node out e → Unread file f t out e
  unread out e s (torn d) = record { torn = λ none. refl; short = λ plan l. absurd (never_both t.records.now (move_count b) d (chained plan l)) }
  unread out e s (short {ns} c lt) = record {
    torn = λ none. absurd (none ns (legible ns s c));
    short = λ plan l. (refl, omega (arith, lt, ap length (one_chain t.records.now (move_count b) f.node ns plan c (chained plan l))));
  }

  pub plans_on : (out : List ℕ) (r : Result ℕ Refusal) (after : List ℕ) → PlansOn b f t out r after → ReadsPlan file f t out r after
  plans_on out (Ok count) after (inl x) = absurd (ok_torn count x.1)
  plans_on out (Err e) after (inl x) = (record { torn = λ none. err_torn e x.1; short = λ plan l. absurd (x.0 (serves plan l)) }, x.2)
  plans_on out (Ok count) after (inr x) =
      let r = x.1 in
      record {
        plan = r.plan;
        legible = legible r.plan x.0 r.chain;
        counted = r.counted;
        fits = omega (arith, r.counted, r.fits);
        written = r.written ∙ ap (λ z. r.plan ++ drop z out) (sym r.counted);
      }
  plans_on out (Err e) after (inr x) = (unread out e x.0 x.1.0, x.1.1)

  pub costs_on : (r : Result K Refusal) → CostsOn b f t r → ReadsCost file f t r
  costs_on (Ok k) x = let c = x.1 in record { plan = c.plan; legible = legible c.plan x.0 c.chain; noted = c.noted; there = c.there; is = c.is }
  costs_on (Err e) x = (x.0, λ plan l. never_both t.records.now (move_count b) (x.1 (serves plan l)) (chained plan l))
