use Rattle.std.proofs.Common.{None, arith}
use Rattle.std.proofs.lemmas.Slice.Eq.{slice_eq-Decides}
use Rattle.std.proofs.lemmas.Bool.Decides.{Decides-eqb}
use Rattle.task.specs.Answers.{held}
use Rattle.task.specs.Files.{task_of}
use Rattle.steps.specs.Memories.{memory}
use Rattle.steps.proofs.Beginnings.{new_when}
use Rattle.steps.proofs.tables.Tables.is_new.Goals as goal

pub returns : goal.returns
returns g c =
    new_when c.eq.result (task_of (held c.args.accepted.now.task)) (memory g.S.Store g.Q.Queue c.args.self.now 0 None) c.values.result.now
    (omega (arith, c.count-kept.ensures, c.if-kept-gt0.false)) (omega (arith, c.count-waiting.ensures, c.if-waiting-gt0.false)) c.values.ensures (slice_eq-Decides Decides-eqb _ _ _ c.eq.ensures)
