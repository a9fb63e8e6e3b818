use Rattle.follow.proofs.Openings.{opens_hold}
use Rattle.follow.proofs.tables.opens_hold.Goals as goal

pub returns : goal.returns
returns g c = λ task. opens_hold g.K.Cost task
