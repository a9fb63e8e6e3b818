-- Steps computed from the opening on, and that a run ends.
use Rattle.std.specs.Prelude.{◌≡◌, ℕ, zero, suc, ◌+◌, ◌<◌, true, false, cond, refl}
use Rattle.std.proofs.Common.{inl, inr, arith}
use Rattle.std.proofs.lemmas.Bool.{both_ways, cases_Bool, cond_both}
use Rattle.cost.specs.Costs.{Arithmetic}
use Rattle.planning.specs.Spaces.{Space, Lawful}
use Rattle.uniform.specs.Runs.{Run, opened}
use Rattle.uniform.specs.Steps.{Outcome, skipped, going, Step, After, opening, onward, Ends}
use Rattle.uniform.specs.Promises.{EndsBy}
use Rattle.uniform.proofs.Goods.{after_good}
use Rattle.uniform.proofs.Computed.{stepped, stepped_is}

module _ (a : Arithmetic) (p : Space) (cap : ℕ) where
  pub record Ran : Type 0 where
    pub steps : ℕ
    pub how : Outcome
    pub run : Run a p

  -- at most so many steps, from a run that i steps have led to
  abbrev pub ran : ℕ → ℕ → Run a p → Ran
  ran zero i s = record { steps = i; how = skipped; run = s }
  ran (suc k) i s =
      let w = stepped a p cap s in
      cond (going w.how) (ran k (i + 1) w.run) (record { steps = i + 1; how = w.how; run = w.run })

module _ (a : Arithmetic) (p : Space) (law : Lawful p) (cap : ℕ) where
  next : {i : ℕ} {s : Run a p} → After a p cap i s → Step a p cap s (stepped a p cap s).how (stepped a p cap s).run
  next {s = s} af = stepped_is a p cap s (after_good a p law af).front.numbers

  -- what it computes to is how the run ends
  pub ran_ends : (k i : ℕ) (s : Run a p) → After a p cap i s → going (ran a p cap k i s).how ≡ false → Ends a p cap (ran a p cap k i s).steps (ran a p cap k i s).how (ran a p cap k i s).run
  ran_ends zero i s af = λ e. absurd (both_ways true e refl)
  ran_ends (suc k) i s af =
      let w = stepped a p cap s in
      cond_both (going w.how) (ran a p cap k (i + 1) w.run) (record { steps = i + 1; how = w.how; run = w.run }) (λ r. going r.how ≡ false → Ends a p cap r.steps r.how r.run)
      (λ t. ran_ends k (i + 1) w.run (onward af t (next af)))
      (λ f e. record { before = i; last = s; after = af; step = next af; ended = f; count = refl })

  -- so a run ends, since each step takes a node
  ends_some : (k i : ℕ) (s : Run a p) → After a p cap i s → i + k ≡ cap + 1 → (j : ℕ) × (o : Outcome) × (t : Run a p) × Ends a p cap j o t
  ends_some zero i s af e = absurd (let t = (after_good a p law af).tally in omega (arith, t.steps, t.within))
  ends_some (suc k) i s af e =
      let w = stepped a p cap s in
      elim (cases_Bool (going w.how)) [
        | inl t ↦ ends_some k (i + 1) w.run (onward af t (next af)) (omega arith)
        | inr f ↦ (i + 1, w.how, w.run, record { before = i; last = s; after = af; step = next af; ended = f; count = refl })
      ]

  still : (i : ℕ) (s : Run a p) → After a p cap i s → i < cap + 1
  still i s af = let t = (after_good a p law af).tally in omega (arith, t.steps, t.within)

  pub ends_by : EndsBy a p cap (cap + 1)
  ends_by = record {
    next = λ i s af. ((stepped a p cap s).how, (stepped a p cap s).run, next af);
    some = λ pos. ends_some (cap + 1) 0 (opened a p) (opening pos) (omega arith);
    still = still;
    at_end = λ i o t e. let b = still e.before e.last e.after in omega (arith, e.count);
  }
