use Rattle.std.proofs.Common.{◌≡◌, get_or, sym, refl, ap, ◌∙◌, subst, arith}
use Rattle.task.specs.Answers.{held}
use Rattle.task.specs.Files.{task_of}
use Rattle.steps.proofs.Leasts.{sound_from}
use Rattle.steps.proofs.tables.Tables.is_sound.Goals as goal

pub returns : goal.returns
returns g c =
    let records = c.args.self.now.records.now in
    let x = c.index-self-from.result in
    sound_from g.K.Cost (task_of (held c.args.accepted.now.task)) _ c.args.n _ _ c.moves.result c.if-n-job.false c.requires.records refl c.row_at.ensures (sym c.if-not-fits.ensures) x
    (record { below = omega (arith, c.if-n-job.false, c.requires.records); is = subst (λ z. get_or records z x ≡ x) c.from.ensures (sym c.index-self-from.is) })
    (c.moves.ensures ∙ ap (λ z. g.K.Cost.joins z.cost) (sym c.index-self-from.is))
