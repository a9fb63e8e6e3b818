use Rattle.std.proofs.Common.{subst}
use Rattle.task.specs.Answers.{held}
use Rattle.task.specs.Files.{task_of}
use Rattle.steps.specs.Memories.{memory}
use Rattle.steps.specs.Steps.{Sound}
use Rattle.steps.proofs.Leasts.{one_name}
use Rattle.steps.proofs.tables.Tables.look.Goals as goal

pub returns-in-Some-clause-looks : goal.returns-in-Some-clause-looks
returns-in-Some-clause-looks g c = λ o.
    let z = c.if-not-is_sized.ensures in
    let p = c.args.job.progress in
    let nm = c.in-Some.ensures.names o in (
      record {
        sized = record { bytes = z.bytes; records = z.records; table = z.table; keeps = z.keeps; waits = z.waits; space = z.space; room = z.room };
        least = λ m h. subst (λ y. Sound g.K.Cost (task_of (held c.args.accepted.now.task)) y (memory g.S.Store g.Q.Queue c.args.self.now p.stored p.cover)) (one_name g.K.Cost _ _ _ nm h) c.if-is_sound.ensures;
      },
      nm,
    )
