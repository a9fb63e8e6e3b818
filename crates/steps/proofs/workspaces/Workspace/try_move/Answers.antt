use Rattle.std.proofs.Common.{sym, subst}
use Rattle.task.specs.Answers.{held}
use Rattle.steps.specs.Steps.{One, unmoved, covered}
use Rattle.steps.specs.Answers.{memory_in, task_in}
use Rattle.steps.proofs.Tasks.{accepted_task}
use Rattle.steps.proofs.Moves.{ready_one, never_misfit, found_some}
use Rattle.steps.proofs.workspaces.Workspace.try_move.Goals as goal

pub returns-in_default-clause-moved : goal.returns-in_default-clause-moved
returns-in_default-clause-moved g c = λ o rd. (o, unmoved c.in_default.ensures)

pub returns-in_err-rank-clause-granted : goal.returns-in_err-rank-clause-granted
returns-in_err-rank-clause-granted g c = λ rd.
    let w = c.args.self.now in
    let a = w.accepted in
    absurd (never_misfit (task_in w) c.args.m _ _ _ (accepted_task (held a.task) a.counted a.positioned a.priced) rd.fit.table rd.fit.sound.fit c.in-Some.ensures.0 c.in_err-rank.ensures.1)

pub returns-in_err-rank-clause-moved : goal.returns-in_err-rank-clause-moved
returns-in_err-rank-clause-moved g c = λ o rd.
    let w = c.args.self.now in
    let a = w.accepted in
    absurd (never_misfit (task_in w) c.args.m _ _ _ (accepted_task (held a.task) a.counted a.positioned a.priced) rd.fit.table rd.fit.sound.fit c.in-Some.ensures.0 c.in_err-rank.ensures.1)

pub returns-in-Some-2-clause-granted : goal.returns-in-Some-2-clause-granted
returns-in-Some-2-clause-granted g c = λ rd.
    let w = c.args.self.now in
    let a = w.accepted in
    ready_one g.K.Cost (task_in w) w.progress.capacity (accepted_task (held a.task) a.counted a.positioned a.priced) rd
    (subst (λ z. One g.K.Cost (task_in w) w.progress.capacity w.node c.args.m (memory_in g.S.Store g.Q.Queue w) z) (sym c.answer.ensures.answered) (covered c.in-Some.ensures.0 (found_some c.in-Some-2.is c.in_ok-rank.ensures.1)))

pub returns-in-Some-2-clause-moved : goal.returns-in-Some-2-clause-moved
returns-in-Some-2-clause-moved g c = λ o rd.
    let w = c.args.self.now in (
      subst g.Q.Queue.ordered (sym c.answer.ensures.tables.1) o,
      subst (λ z. One g.K.Cost (task_in w) w.progress.capacity w.node c.args.m (memory_in g.S.Store g.Q.Queue w) z) (sym c.answer.ensures.answered) (covered c.in-Some.ensures.0 (found_some c.in-Some-2.is c.in_ok-rank.ensures.1)),
    )
