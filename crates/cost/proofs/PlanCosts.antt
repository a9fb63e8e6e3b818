-- What plans cost.
use Rattle.std.proofs.Common.{◌≡◌, ℕ, suc, ◌+◌, ◌<◌, ◌≤◌, max, ◌⊎◌, List, [], ◌∷◌, ◌++◌, length, sum, sym, refl, ap, ◌∙◌, subst, inl, inr, ⊎_elim, one-add, length-append, arith}
use Rattle.std.specs.List.{ContainsAt as Has}
use Rattle.std.proofs.lemmas.Bool.{cases_lt}
use Rattle.std.proofs.Math.Seq.{get_or-append_seam}
use Rattle.std.proofs.lemmas.List.Sums.{sum_by-cons}
use Rattle.std.proofs.ByRecursion.{All-weaker, has_get_or, has_append_right}
use Rattle.cost.specs.Costs.{Arithmetic, NotAfter, cost_of}
use Rattle.cost.specs.Kinds.{spend, spend_then_moves, peak, tally, Tally}
use Rattle.cost.specs.Plans.{Largest, PlanRefused}
use Rattle.rows.specs.declared.refusals.Refusal.{Refusal}
use Rattle.rows.specs.declared.refusals.Refusal.TheVariants.{Price, Long}

module _ (a : Arithmetic) where
  pub kept : (ps qs rs : List ℕ) → NotAfter a (cost_of a qs) (cost_of a rs) → NotAfter a (cost_of a (ps ++ qs)) (cost_of a (ps ++ rs))
  kept [] qs rs h = h
  kept (p ∷ ps) qs rs h = a.kept_by_join (a.priced p) (cost_of a (ps ++ qs)) (cost_of a (ps ++ rs)) (kept ps qs rs h)

  same : (x : a.Value) → NotAfter a x x
  same x = ⊎_elim (λ h. h) (λ h. h) (a.total x x)

  pub rest : (ps qs : List ℕ) → NotAfter a (cost_of a qs) (cost_of a (ps ++ qs))
  rest [] qs = same (cost_of a qs)
  rest (p ∷ ps) qs =
      a.transitive (cost_of a qs) (cost_of a (ps ++ qs)) (cost_of a (p ∷ ps ++ qs)) (rest ps qs) (a.never_before_rest (a.priced p) (cost_of a (ps ++ qs)))

pub spend_is : (ps : List ℕ) → cost_of spend ps ≡ sum ps
spend_is [] = refl
spend_is (p ∷ ps) = ap (◌+◌ p) (spend_is ps) ∙ sym (sum_by-cons (λ q. q) p ps)

pub spend_then_moves_is : (ps : List ℕ) → cost_of spend_then_moves ps ≡ tally (sum ps) (length ps)
spend_then_moves_is [] = refl
spend_then_moves_is (p ∷ ps) =
    ap (λ (t : Tally). tally (p + t.sum) (1 + t.count)) (spend_then_moves_is ps)
    ∙ ap (tally (p + sum ps)) (one-add (length ps)) ∙ ap (λ s. tally s (suc (length ps))) (sym (sum_by-cons (λ q. q) p ps))

largest : (p : ℕ) (ps : List ℕ) (m : ℕ) → Largest ps m → Largest (p ∷ ps) (max p m)
largest p ps m l = record {
  above = (omega arith, All-weaker (λ q. q ≤ m) (λ q. q ≤ max p m) (λ q h. omega arith) ps l.above);
  there =
      ⊎_elim
      (λ (h : m < p).
      let e : p ≡ max p m = omega arith in
      inl (subst (Has (p ∷ ps)) e (has_get_or (p ∷ ps) 0 0 (omega arith))))
      (λ (h : p ≤ m).
      let e : m ≡ max p m = omega arith in
      ⊎_elim
      (λ k. inl (subst (Has (p ∷ ps)) e (has_append_right (p ∷ []) ps m k)))
      (λ k.
      let z : p ≡ max p m = omega (arith, k.1) in
      inl (subst (Has (p ∷ ps)) z (has_get_or (p ∷ ps) 0 0 (omega arith))))
      l.there)
      (cases_lt m p);
}

pub peak_is : (ps : List ℕ) → Largest ps (cost_of peak ps)
peak_is [] = record { above = tt; there = inr (refl, refl) }
peak_is (p ∷ ps) = largest p ps (cost_of peak ps) (peak_is ps)

-- a price stands between those before it and those after it
pub price_refused : (ps before rest : List ℕ) (p : ℕ) (e : Refusal) → length ps ≤ 65535 → ps ≡ before ++ p ∷ rest →
    ((e ≡ Price) × (1000000000 < p)) ⊎ ((e ≡ Long) × (p ≤ 1000000000) × (65535 < 1 + length rest)) → PlanRefused ps e
price_refused ps before rest p e short is =
    let long : length ps ≡ length before + (1 + length rest) = rw is (simp length-append (omega arith)) in
    ⊎_elim
    (λ h. inr (h.0, short, (length before, omega arith, rw (is, get_or-append_seam before p rest 0) h.1)))
    (λ h. absurd (omega (arith, h.2)))
