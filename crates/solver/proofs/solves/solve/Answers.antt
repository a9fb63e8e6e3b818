use Rattle.solver.proofs.Endings.{declines, never_refused, went_ends}
use Rattle.solver.proofs.solves.solve.Goals as goal

pub returns-in_err-job : goal.returns-in_err-job
returns-in_err-job g c =
    let h = declines g.K.Cost g.S.Store g.Q.Queue c.args.file.now c.args.t.now c.open.new.t c.args.out.now c.in_err-job.field-0.0 c.from_residual.result c.from_residual.ensures.1 c.in_err-job.ensures in
    record { calls = h.calls; tells = h.tells }

pub returns-in_err-worked : goal.returns-in_err-worked
returns-in_err-worked g c = absurd (never_refused g.K.Cost g.S.Store g.Q.Queue c.args.file.now c.args.t.now c.open.new.t c.work.new.t c.in_ok-job.job c.in_err-worked.field-0.0 c.enough_steps.result c.in_ok-job.ensures c.enough_steps.ensures.budget c.in_err-worked.ensures.works)

pub returns : goal.returns
returns g c =
    let h = went_ends g.K.Cost g.S.Store g.Q.Queue c.args.file.now c.args.t.now c.open.new.t c.work.new.t c.args.out.now c.finish.new.out c.in_ok-job.job c.in_ok-worked.worked c.enough_steps.result _ c.finish.result c.in_ok-job.ensures c.in_ok-worked.ensures.works c.enough_steps.ensures.budget c.finish.ensures in
    record { calls = h.calls; tells = h.tells }
