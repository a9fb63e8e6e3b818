use Rattle.task.specs.Answers.{held}
use Rattle.task.specs.Files.{task_of}
use Rattle.search.proofs.Workings.{going_none, going_more}
use Rattle.search.proofs.works.work_on.Goals as goal

pub loop-done-init : goal.loop-done-init
loop-done-init g c = going_none g.K.Cost g.S.Store g.Q.Queue (task_of (held c.args.accepted.now.task)) c.args.from c.args.t.now

pub loop-done-preserved : goal.loop-done-preserved
loop-done-preserved g c =
    let w = c.in-Ok-Searching in
    going_more g.K.Cost g.S.Store g.Q.Queue (task_of (held c.args.accepted.now.task)) c.args.from c.args.t.now c.loop-done.done c.loop-done.job w.j c.loop-done.t c.advance.new.t w.field-0 w.field-0-is c.loop-done.invariant w.ensures.advanced
