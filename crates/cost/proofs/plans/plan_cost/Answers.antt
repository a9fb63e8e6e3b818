use Rattle.std.proofs.Common.{◌≡◌, ◌≤◌, [], ◌∷◌, ◌++◌, append_assoc, append-nil, ap, ◌∙◌, arith}
use Rattle.std.proofs.lemmas.Result.{err_from_is_err_and}
use Rattle.std.proofs.lemmas.List.{nil_from_length}
use Rattle.std.proofs.ByRecursion.{All-get_or}
use Rattle.cost.proofs.PlanCosts.{price_refused}
use Rattle.cost.proofs.plans.plan_cost.Goals as goal

pub loop-price-init : goal.loop-price-init
loop-price-init g c = let made = c.nothing-cost.ensures in ([], simp append-nil (cc), made.value, made.joins, tt, made.within)

pub loop-price-preserved : goal.loop-price-preserved
loop-price-preserved g c =
    let inv = c.loop-price.invariant in
    let one = c.in_ok-cost.ensures in (
      c.in-Some.price.now ∷ inv.0,
      inv.1 ∙ rw (c.in-Some.ensures.steps, append_assoc),
      one.1 ∙ ap (g.K.Cost.arithmetic.joined (g.K.Cost.arithmetic.priced c.in-Some.price.now)) inv.2,
      omega (arith, one.2, inv.3),
      (one.0, inv.4),
      one.3,
    )

pub returns-in_err-cost : goal.returns-in_err-cost
returns-in_err-cost g c =
    let inv = c.loop-price.invariant in
    let p = err_from_is_err_and c.from_residual.result c.from_residual.ensures.1 in
    rw (p.1, p.2)
    (price_refused c.args.prices.now c.next.new.self.iter.rest.now inv.0 c.in-Some.price.now c.in_err-cost.field-0.0 (omega arith)
    (inv.1 ∙ rw (c.in-Some.ensures.steps, append_assoc))
    (rw (← inv.3) c.in_err-cost.ensures))

pub returns : goal.returns
returns g c =
    let inv = c.loop-price.invariant in
    let all : c.args.prices.now ≡ inv.0 = inv.1 ∙ ap (λ xs. xs ++ inv.0) (nil_from_length _ c.in-None.ensures.steps.0) in (
      omega arith,
      λ k h. All-get_or (λ p. p ≤ 1000000000) c.args.prices.now k 0 h (rw all inv.4),
      rw all inv.2,
      rw all inv.3,
      inv.5,
    )
