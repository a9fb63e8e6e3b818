use Rattle.std.proofs.Common.{refl, arith}
use Rattle.steps.specs.Steps.{One, none, more}
use Rattle.steps.specs.Answers.{memory_in, Ready}
use Rattle.steps.proofs.Additions.{lent_same, lent_then, lent_at, lent_from, grown_then}
use Rattle.steps.proofs.workspaces.Workspace.expand.Goals as goal

pub loop-m-init : goal.loop-m-init
loop-m-init g c = record { lent = lent_same _; counts = record { more = omega arith; store = refl; waits = refl }; granted = λ rd. rd; expands = λ o rd. (o, none) }

pub loop-m-preserved : goal.loop-m-preserved
loop-m-preserved g c =
    let i = c.loop-m.invariant in
    let e = c.in_ok-try_move.ensures in
    let w = c.args.self.now in
    let v = c.loop-m.self in
    let s = memory_in g.S.Store g.Q.Queue v in
    let t = memory_in g.S.Store g.Q.Queue c.try_move.new.self in
    record {
      lent = lent_then i.lent e.lent;
      counts = grown_then g.S.Store g.Q.Queue i.counts e.counts;
      granted = λ rd. lent_at w v (λ task cap n. Ready g.K.Cost task cap n t) i.lent (e.granted (lent_from w v (λ task cap n. Ready g.K.Cost task cap n s) i.lent (i.granted rd)));
      expands = λ o rd.
          let h = i.expands o rd in
          let x = e.moved h.0 (lent_from w v (λ task cap n. Ready g.K.Cost task cap n s) i.lent (i.granted rd)) in
          (x.0, more h.1 (lent_at w v (λ task cap n. One g.K.Cost task cap n c.loop-m.m s t) i.lent x.1));
    }
