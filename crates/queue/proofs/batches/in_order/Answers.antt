use Rattle.std.proofs.Common.{◌≡◌, ◌-◌, min, List, ◌++◌, length, take, ap, ◌∙◌, subst, arith}
use Rattle.std.proofs.lemmas.List.{take_min}
use Rattle.std.specs.List.Sorted.{IsPermutation}
use Rattle.queue.specs.Batches.{numbered}
use Rattle.queue.proofs.Runs.{drained_from}
use Rattle.queue.proofs.batches.in_order.Goals as goal

pub returns : goal.returns
returns g c =
    let Q = g.Q.Queue in
    let K = g.row.K.Denot in
    let put = c.put_all.ensures in
    let took = c.take_all.ensures in
    let old = Q.entries c.args.q.now in
    let mid = Q.entries c.put_all.new.q in
    let ks = c.args.costs.now in
    let n = Q.room c.args.q.now - length old in
    let least : c.put_all.result ≡ min n (length ks) = omega (arith, put.count.0) in
    let few : take c.put_all.result ks ≡ take n ks = ap (λ m. take m ks) least ∙ take_min n ks in
    record {
      lent = took.lent ∙ put.lent;
      room = took.room ∙ put.room;
      count = (omega (arith, took.count.0, put.count.0, put.count.1), omega (arith, took.count.1, put.count.0, put.count.1));
      rest = took.rest;
      ordered = λ h. took.ordered (put.ordered h);
      order = λ h.
          drained_from g.K.Cost mid _ _ (Q.entries c.take_all.new.q)
          (subst (λ (l : List K). IsPermutation (numbered l 0 ++ old) mid) few (put.entries h)) (took.order (put.ordered h));
    }
