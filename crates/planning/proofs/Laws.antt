-- The laws of regression over rows, and the example that refutes a belief.
use Rattle.std.proofs.Common.{◌≡◌, ℕ, true, false, cond, not, ◌&&◌, eqb, List, [], ◌∷◌, length, Some, None, sym, refl, ◌∙◌, subst, inl, inr, arith, lit≤}
use Rattle.std.proofs.lemmas.Bool.Decides.{nat_tests}
use Rattle.std.proofs.lemmas.Bool.{and_parts, and_from, both_ways, cases_Bool, or_parts, cond-true, cond-false}
use Rattle.rows.specs.Rows.{Row, fixed, covers_at, covers, fits_at, fits, overlaid, hits, differ, clear, backed}
use Rattle.rows.proofs.Both.{both_length, fits_length}
use Rattle.planning.specs.declared.beliefs.Belief.TheVariants.{CoverAgrees, RegressedLeads, LedIsRegressed, CovererRegresses}
use Rattle.planning.specs.Beliefs.{CoversAgree, RegressedRowsLead, LedRowsAreRegressed, CoverersRegress, BeliefsAreJudged}
use Rattle.planning.specs.Samples.{u, open_gate}
use Rattle.planning.proofs.Lists.{some_inj, none_some}

-- one variable: g's byte b, the condition's y, the effect's x, a state's c
through_at : (a b c : ℕ) → covers_at a b ≡ true → covers_at b c ≡ true → covers_at a c ≡ true
through_at a b c p q = grind (arith, nat_tests)

condition_at : (b y x c : ℕ) → covers_at (cond (fixed y) y (cond (fixed x) 255 b)) c ≡ true → covers_at y c ≡ true
condition_at b y x c p = grind (arith, nat_tests)

goal_at : (b y x c : ℕ) → covers_at (cond (fixed y) y (cond (fixed x) 255 b)) c ≡ true → not (cond (fixed x) (differ x b) (differ y b)) ≡ true → covers_at b (cond (fixed x) x c) ≡ true
goal_at b y x c p q = grind (arith, nat_tests)

still_at : (b x c : ℕ) → covers_at b (cond (fixed x) x c) ≡ true → (fixed x && eqb x b) ≡ false → covers_at b c ≡ true
still_at b x c p q = grind (arith, nat_tests)

back_at : (b y x c : ℕ) → covers_at y c ≡ true → covers_at b (cond (fixed x) x c) ≡ true → covers_at (cond (fixed y) y (cond (fixed x) 255 b)) c ≡ true
back_at b y x c p q = grind (arith, nat_tests)

clear_at : (b y x c : ℕ) → covers_at y c ≡ true → covers_at b (cond (fixed x) x c) ≡ true → not (cond (fixed x) (differ x b) (differ y b)) ≡ true
clear_at b y x c p q = grind (arith, nat_tests)

unlike : {X : Type 0} → false ≡ true → X
unlike p = absurd (both_ways false refl p)

pub covers_agree : CoversAgree
covers_agree [] [] s p q = q
covers_agree [] (b ∷ g) s p q = unlike p
covers_agree (a ∷ k) [] s p q = unlike p
covers_agree (a ∷ k) (b ∷ g) [] p q = unlike q
covers_agree (a ∷ k) (b ∷ g) (c ∷ s) p q =
    let x = and_parts (covers_at a b) (covers k g) p in
    let y = and_parts (covers_at b c) (covers g s) q in
    and_from (covers_at a c) (covers k s) (through_at a b c x.0 y.0) (covers_agree k g s x.1 y.1)

-- a state that the regressed row agrees with meets the condition
meets_condition : (g c e s : Row) → length c ≡ length g → length e ≡ length g → covers (backed g c e) s ≡ true → covers c s ≡ true
meets_condition [] [] e s lc le p = p
meets_condition [] (y ∷ c) e s lc le p = absurd (omega arith)
meets_condition (b ∷ g) [] e s lc le p = absurd (omega arith)
meets_condition (b ∷ g) (y ∷ c) [] s lc le p = absurd (omega arith)
meets_condition (b ∷ g) (y ∷ c) (x ∷ e) [] lc le p = unlike p
meets_condition (b ∷ g) (y ∷ c) (x ∷ e) (z ∷ s) lc le p =
    let h = and_parts (covers_at (cond (fixed y) y (cond (fixed x) 255 b)) z) (covers (backed g c e) s) p in
    and_from (covers_at y z) (covers c s) (condition_at b y x z h.0) (meets_condition g c e s (omega arith) (omega arith) h.1)

-- and the move leads from it to where the row agrees
leads_on : (g c e s : Row) → length c ≡ length g → length e ≡ length g → clear g c e ≡ true → covers (backed g c e) s ≡ true → covers g (overlaid e s) ≡ true
leads_on [] c [] s lc le q p = p
leads_on [] c (x ∷ e) s lc le q p = absurd (omega arith)
leads_on (b ∷ g) [] e s lc le q p = absurd (omega arith)
leads_on (b ∷ g) (y ∷ c) [] s lc le q p = absurd (omega arith)
leads_on (b ∷ g) (y ∷ c) (x ∷ e) [] lc le q p = unlike p
leads_on (b ∷ g) (y ∷ c) (x ∷ e) (z ∷ s) lc le q p =
    let h = and_parts (covers_at (cond (fixed y) y (cond (fixed x) 255 b)) z) (covers (backed g c e) s) p in
    let k = and_parts (not (cond (fixed x) (differ x b) (differ y b))) (clear g c e) q in
    and_from (covers_at b (cond (fixed x) x z)) (covers g (overlaid e s)) (goal_at b y x z h.0 k.0) (leads_on g c e s (omega arith) (omega arith) k.1 h.1)

-- an effect that hits nothing of the row leaves it agreeing where it agreed
agreed_before : (g e s : Row) → length e ≡ length s → hits g e ≡ false → covers g (overlaid e s) ≡ true → covers g s ≡ true
agreed_before g [] s le h p = p
agreed_before g (x ∷ e) [] le h p = absurd (omega arith)
agreed_before [] (x ∷ e) (z ∷ s) le h p = unlike p
agreed_before (b ∷ g) (x ∷ e) (z ∷ s) le h p =
    let k = and_parts (covers_at b (cond (fixed x) x z)) (covers g (overlaid e s)) p in
    let j = or_parts (fixed x && eqb x b) (hits g e) h in
    and_from (covers_at b z) (covers g s) (still_at b x z k.0 j.0) (agreed_before g e s (omega arith) j.1 k.1)

-- where the condition is met and the effect leads to where the row agrees, nothing clashes, and the row taken back agrees
taken_back : (g c e s : Row) → length e ≡ length s → covers c s ≡ true → covers g (overlaid e s) ≡ true → (clear g c e ≡ true) × (covers (backed g c e) s ≡ true)
taken_back [] c e [] le pc pg = (refl, refl)
taken_back [] c [] (z ∷ s) le pc pg = unlike pg
taken_back [] c (x ∷ e) (z ∷ s) le pc pg = unlike pg
taken_back (b ∷ g) [] e [] le pc pg = (refl, refl)
taken_back (b ∷ g) [] e (z ∷ s) le pc pg = unlike pc
taken_back (b ∷ g) (y ∷ c) e [] le pc pg = unlike pc
taken_back (b ∷ g) (y ∷ c) [] (z ∷ s) le pc pg = absurd (omega arith)
taken_back (b ∷ g) (y ∷ c) (x ∷ e) (z ∷ s) le pc pg =
    let h = and_parts (covers_at y z) (covers c s) pc in
    let k = and_parts (covers_at b (cond (fixed x) x z)) (covers g (overlaid e s)) pg in
    let r = taken_back g c e s (omega arith) h.1 k.1 in (
      and_from (not (cond (fixed x) (differ x b) (differ y b))) (clear g c e) (clear_at b y x z h.0 k.0) r.0,
      and_from (covers_at (cond (fixed y) y (cond (fixed x) 255 b)) z) (covers (backed g c e) s) (back_at b y x z h.0 k.0) r.1,
    )

pub regressed_lead : RegressedRowsLead
regressed_lead values m g h s mf fg r p =
    let lg = fits_length values g fg in
    let lc = fits_length values m.condition mf.condition in
    let le = fits_length values m.effect mf.effect in
    elim (cases_Bool (hits g m.effect && clear g m.condition m.effect)) [
      | inl is ↦
          let k = and_parts (hits g m.effect) (clear g m.condition m.effect) is in
          let e : backed g m.condition m.effect ≡ h = some_inj _ _ (sym (cond-true _ (Some (backed g m.condition m.effect)) None is) ∙ r) in
          let p' : covers (backed g m.condition m.effect) s ≡ true = subst (λ z. covers z s ≡ true) (sym e) p in
          (overlaid m.effect s, cond-true _ _ _ (meets_condition g m.condition m.effect s (omega arith) (omega arith) p'), leads_on g m.condition m.effect s (omega arith) (omega arith) k.1 p')
      | inr not_so ↦ none_some h (sym (cond-false _ (Some (backed g m.condition m.effect)) None not_so) ∙ r)
    ]

pub led_regressed : LedRowsAreRegressed
led_regressed values m g s s' mf r p =
    let lc = fits_length values m.condition mf.condition in
    let le = fits_length values m.effect mf.effect in
    elim (cases_Bool (covers m.condition s)) [
      | inl met ↦
          let e : overlaid m.effect s ≡ s' = some_inj _ _ (sym (cond-true _ (Some (overlaid m.effect s)) None met) ∙ r) in
          let p' : covers g (overlaid m.effect s) ≡ true = subst (λ z. covers g z ≡ true) (sym e) p in
          let ls : length m.effect ≡ length s = omega (arith, both_length covers_at m.condition s met) in
          elim (cases_Bool (hits g m.effect)) [
            | inl hit ↦
                let b = taken_back g m.condition m.effect s ls met p' in
                inr (backed g m.condition m.effect, cond-true _ _ _ (and_from (hits g m.effect) (clear g m.condition m.effect) hit b.0), b.1)
            | inr miss ↦ inl (agreed_before g m.effect s ls miss p')
          ]
      | inr unmet ↦ none_some s' (sym (cond-false _ (Some (overlaid m.effect s)) None unmet) ∙ r)
    ]

-- opening the gate of the sample line
pub coverers_do_not : CoverersRegress → ⊥
coverers_do_not f =
    let j = f (2 ∷ 3 ∷ []) open_gate (u ∷ 0 ∷ []) (1 ∷ 0 ∷ []) (0 ∷ 0 ∷ []) (record { price = lit≤ tt; condition = refl; effect = refl }) refl refl refl refl in
    none_some j.0 j.1

pub beliefs_judged : BeliefsAreJudged
beliefs_judged CoverAgrees = covers_agree
beliefs_judged RegressedLeads = regressed_lead
beliefs_judged LedIsRegressed = led_regressed
beliefs_judged CovererRegresses = coverers_do_not
