use Rattle.std.proofs.Common.{◌≡◌, ℕ, ◌+◌, List, length, take, drop, sym, ap, ◌∙◌, subst, arith}
use Rattle.std.proofs.lemmas.List.{take_more_set, set-get_or}
use Rattle.queue.specs.Batches.{Drained}
use Rattle.queue.proofs.Runs.{drained_more, rest_more}
use Rattle.queue.proofs.batches.take_all.Goals as goal

pub loop-i-preserved : goal.loop-i-preserved
loop-i-preserved g c =
    let Q = g.Q.Queue in
    let C = g.K.Cost in
    let inv = c.loop-i.invariant in
    let told = c.in-Some.ensures in
    let i = c.loop-i.i in
    let ns = c.loop-i.numbers in
    let e = c.in-Some.e in
    let old = Q.entries c.args.q.now in
    let left = Q.entries c.take.new.self in (
      told.lent ∙ inv.0,
      told.room ∙ inv.1,
      omega (arith, told.count, inv.2),
      rest_more c.args.numbers.now ns i e.number inv.3,
      λ h. told.ordered (inv.4 h),
      λ h.
          let got = told.entries (inv.4 h) in
          subst (λ (ms : List ℕ). Drained C old ms left) (sym (take_more_set ns i e.number (omega arith)))
          (drained_more C old _ (Q.entries c.loop-i.q) left e (inv.5 h) got.0 got.1),
    )

pub returns-in-None : goal.returns-in-None
returns-in-None g c =
    let Q = g.Q.Queue in
    let inv = c.loop-i.invariant in
    let told = c.in-None.ensures in
    let same = sym told.count.1 in
    let kept = set-get_or c.loop-i.numbers c.loop-i.i 0 in
    let none : length (Q.entries c.take.new.self) ≡ 0 = ap (λ q. length (Q.entries q)) told.count.1 ∙ ap length told.count.0 in
    let left : length (Q.entries c.take.new.self) + c.loop-i.i ≡ length (Q.entries c.args.q.now) = subst (λ q. length (Q.entries q) + c.loop-i.i ≡ length (Q.entries c.args.q.now)) same inv.2 in
    record {
      lent = told.lent ∙ inv.0;
      room = told.room ∙ inv.1;
      count = (omega arith, left);
      rest = ap (drop c.loop-i.i) kept ∙ inv.3;
      ordered = λ h. told.ordered (inv.4 h);
      order = λ h.
          subst (λ (ms : List ℕ). Drained g.K.Cost (Q.entries c.args.q.now) (take c.loop-i.i ms) (Q.entries c.take.new.self)) (sym kept)
          (subst (λ q. Drained g.K.Cost (Q.entries c.args.q.now) (take c.loop-i.i c.loop-i.numbers) (Q.entries q)) same (inv.5 h));
    }
