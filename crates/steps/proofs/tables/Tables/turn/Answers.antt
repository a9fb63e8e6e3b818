use Rattle.std.proofs.Common.{Ok, refl, subst}
use Rattle.task.specs.Answers.{held}
use Rattle.task.specs.Files.{task_of}
use Rattle.steps.specs.Memories.{memory}
use Rattle.steps.specs.Steps.{ends}
use Rattle.steps.specs.Answers.{Looks}
use Rattle.steps.proofs.tables.Tables.turn.Goals as goal

pub returns-in-None-clause-turns : goal.returns-in-None-clause-turns
returns-in-None-clause-turns g c = λ o.
    let j = c.args.job in
    let w = subst (λ z. Looks g.K.Cost (task_of (held c.args.accepted.now.task)) j.progress.capacity j.kept j.waiting (memory g.S.Store g.Q.Queue c.args.self.now j.progress.stored j.progress.cover) (Ok z)) c.in-None.is (c.in_ok-look.ensures.looks o) in
    (refl, record { whole = w.0; step = ends w.1 })
