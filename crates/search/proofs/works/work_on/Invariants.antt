use Rattle.task.specs.Answers.{held}
use Rattle.task.specs.Files.{task_of}
use Rattle.search.proofs.Workings.{Going}
use Rattle.search.proofs.works.work_on.Given as goal

abbrev pub invariant-loop-done : goal.invariant-loop-done
invariant-loop-done g l = Going g.K.Cost g.S.Store g.Q.Queue (task_of (held l.accepted.task)) l.initial.job l.initial.t l.done l.t l.job
