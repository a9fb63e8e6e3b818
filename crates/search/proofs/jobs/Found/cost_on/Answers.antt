use Rattle.std.proofs.Common.{arith, subst}
use Rattle.task.specs.Answers.{held}
use Rattle.chains.specs.Chains.{Chain}
use Rattle.search.proofs.Founds.{costed}
use Rattle.search.proofs.jobs.Found.cost_on.Goals as goal

pub returns : goal.returns
returns g c =
    let f = c.args.self.now in
    let t = c.args.t.now in
    let s = c.if-not-is_served.ensures in
    let p = c.if-not-is_chained.ensures in
    (s, costed (held c.args.accepted.now.task) f t p.0 c.noted_cost.result (omega (arith, f.below, f.progress.within, s.1.0)) (subst (λ z. Chain t.records.now z f.node p.0) c.count.ensures p.1) c.noted_cost.ensures)
