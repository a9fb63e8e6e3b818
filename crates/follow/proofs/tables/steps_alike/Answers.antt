use Rattle.follow.proofs.Follows.{steps_alike, never_torn}
use Rattle.follow.proofs.tables.steps_alike.Goals as goal

pub returns : goal.returns
returns g c = record { alike = λ task. steps_alike g.K.Cost task; whole = λ task. never_torn g.K.Cost task }
