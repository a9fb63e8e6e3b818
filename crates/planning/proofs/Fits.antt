-- A regressed row fits.
use Rattle.std.proofs.Common.{◌≡◌, ℕ, true, false, cond, ◌&&◌, List, [], ◌∷◌, Some, None, Option, refl, subst}
use Rattle.std.proofs.lemmas.Bool.{and_parts, and_from, cond_both, both_ways}
use Rattle.rows.specs.Rows.{Row, Move, fixed, fits_at, fits, regressed, backed, hits, clear}
use Rattle.rows.specs.Tasks.{Task, nth, MoveFits, Accepted}
use Rattle.planning.specs.Regressions.{over}
use Rattle.planning.proofs.Lists.{some_inj, none_some}

backed_fits : (vs g c e : List ℕ) → fits vs g ≡ true → fits vs c ≡ true → fits vs e ≡ true → fits vs (backed g c e) ≡ true
backed_fits [] [] c e pg pc pe = refl
backed_fits [] (b ∷ g) c e pg pc pe = absurd (both_ways false refl pg)
backed_fits (n ∷ vs) [] c e pg pc pe = absurd (both_ways false refl pg)
backed_fits (n ∷ vs) (b ∷ g) [] e pg pc pe = absurd (both_ways false refl pc)
backed_fits (n ∷ vs) (b ∷ g) (y ∷ c) [] pg pc pe = absurd (both_ways false refl pe)
backed_fits (n ∷ vs) (b ∷ g) (y ∷ c) (x ∷ e) pg pc pe =
    let hg = and_parts (fits_at n b) (fits vs g) pg in
    let hc = and_parts (fits_at n y) (fits vs c) pc in
    let he = and_parts (fits_at n x) (fits vs e) pe in
    and_from (fits_at n (cond (fixed y) y (cond (fixed x) 255 b))) (fits vs (backed g c e))
    (cond_both (fixed y) y (cond (fixed x) 255 b) (λ z. fits_at n z ≡ true) (λ _. hc.0) (λ _. cond_both (fixed x) 255 b (λ z. fits_at n z ≡ true) (λ _. refl) (λ _. hg.0)))
    (backed_fits vs g c e hg.1 hc.1 he.1)

regressed_fits : (vs g : List ℕ) (m : Move) (r : Row) → MoveFits vs m → fits vs g ≡ true → regressed m g ≡ Some r → fits vs r ≡ true
regressed_fits vs g m r mf pg =
    let P : Option Row → Type 0 = λ o. o ≡ Some r → fits vs r ≡ true in
    cond_both (hits g m.effect && clear g m.condition m.effect) (Some (backed g m.condition m.effect)) None P
    (λ _ q. subst (λ z. fits vs z ≡ true) (some_inj (backed g m.condition m.effect) r q) (backed_fits vs g m.condition m.effect pg mf.condition mf.effect))
    (λ _ q. none_some r q)

fits_over : (t : Task) (o : Option Move) (g h : Row) → ((m : Move) → o ≡ Some m → MoveFits t.values m) → fits t.values g ≡ true → over o g ≡ Some h → fits t.values h ≡ true
fits_over t None g h mf fg b = none_some h b
fits_over t (Some m) g h mf fg b = regressed_fits t.values g m h (mf m refl) fg b

-- a row that an accepted task's move regresses fits, too
pub back_fits : (t : Task) (n : ℕ) (g h : Row) → Accepted t → fits t.values g ≡ true → over (nth t.moves n) g ≡ Some h → fits t.values h ≡ true
back_fits t n g h acc fg b = fits_over t (nth t.moves n) g h (λ m e. acc.move n m e) fg b
