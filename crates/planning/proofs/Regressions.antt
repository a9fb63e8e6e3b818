-- Regression over an accepted task's rows is a lawful space, whose plans are the task's plans.
use Rattle.std.proofs.Common.{◌≡◌, ℕ, ◌<◌, true, not, eqb, List, [], ◌∷◌, length, Some, None, Option, sym, refl, ap, ◌∙◌, subst, inl, inr}
use Rattle.std.proofs.lemmas.Bool.{and_from, or_right, eq-eqb, cases_lt}
use Rattle.rows.specs.Rows.{Row, Move, fixed, covers_at, covers, fits, applied}
use Rattle.rows.specs.Tasks.{Task, nth, MoveFits}
use Rattle.cost.specs.Costs.{Arithmetic}
use Rattle.planning.specs.Plans.{Path, done, then, Cheapest}
use Rattle.planning.specs.Spaces.{Route, there, Best}
use Rattle.planning.specs.Spaces as spaces
use Rattle.planning.specs.Regressions.{over, regression, Regresses, RegressionIsLawful}
use Rattle.planning.proofs.Lists.{none_some, nth_none}
use Rattle.planning.proofs.Laws.{covers_agree, regressed_lead, led_regressed}
use Rattle.planning.proofs.Fits.{back_fits}
use Rattle.planning.proofs.Counts.{rows_few}

covers_itself : (r : Row) → covers r r ≡ true
covers_itself [] = refl
covers_itself (a ∷ r) = and_from (covers_at a a) (covers r r) (or_right (not (fixed a)) (eqb a a) (eq-eqb a a refl)) (covers_itself r)

only_moves : (t : Task) (n : ℕ) (g h : Row) → over (nth t.moves n) g ≡ Some h → n < length t.moves
only_moves t n g h b = elim (cases_lt n (length t.moves)) [
  | inl l ↦ l
  | inr ge ↦ none_some h (sym (ap (λ o. over o g) (nth_none t.moves n ge)) ∙ b)
]

sound_over : (t : Task) (o : Option Move) (g h s : Row) → ((m : Move) → o ≡ Some m → MoveFits t.values m) → fits t.values g ≡ true → over o g ≡ Some h → covers h s ≡ true
    → (m : Move) × (o ≡ Some m) × ((s' : Row) × (applied m s ≡ Some s') × (covers g s' ≡ true))
sound_over t None g h s mf fg b p = none_some h b
sound_over t (Some m) g h s mf fg b p = (m, refl, regressed_lead t.values m g h s (mf m refl) fg b p)

route_of : (t : Task) {s z : Row} {ns : List ℕ} → Path t s ns z → covers t.goal z ≡ true → Route (regression t) s ns
route_of t done g = there g
route_of t (then l p) g = spaces.then l (route_of t p g)

path_of : (t : Task) {s : Row} {ns : List ℕ} → Route (regression t) s ns → (z : Row) × Path t s ns z × (covers t.goal z ≡ true)
path_of t {s} (there g) = (s, done, g)
path_of t (spaces.then l r) = let h = path_of t r in (h.0, then l h.1, h.2)

pub regression_lawful : RegressionIsLawful
regression_lawful t acc = record {
  lawful = record {
    met = λ r m. (t.start, refl, m);
    meets_all = λ r s b h. subst (λ z. covers r z ≡ true) b h;
    sound = λ n g h s fg b p.
        let r = sound_over t (nth t.moves n) g h s (λ m e. acc.move n m e) fg b p in
        (r.2.0, record { move = r.0; is = r.1; goes = r.2.1 }, r.2.2);
    complete = λ n g s s' l p.
        elim (led_regressed t.values l.move g s s' (acc.move n l.move l.is) l.goes p) [
          | inl c ↦ inl c
          | inr h ↦ inr (h.0, ap (λ o. over o g) l.is ∙ h.1, h.2)
        ];
    wider = covers_agree;
    itself = covers_itself;
    through = covers_agree;
    below = only_moves t;
    goal_fits = acc.goal;
    back_fits = λ n g h fg b. back_fits t n g h acc fg b;
    few = rows_few t.values;
  };
  plans = λ ns. (λ pl. (t.start, refl, route_of t pl.1 pl.2), λ s. path_of t (subst (λ z. Route (regression t) z ns) s.1 s.2));
}

-- a plan of the space that none comes before is a cheapest plan of the task
pub best_cheapest : (a : Arithmetic) (t : Task) → Regresses t → (ns : List ℕ) → Best (regression t) a ns → Cheapest a t ns
best_cheapest a t reg ns b = ((reg.plans ns).1 b.0, λ ms pl. b.1 ms ((reg.plans ms).0 pl))
