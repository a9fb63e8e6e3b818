use Rattle.follow.proofs.Workings.{works_alike}
use Rattle.follow.proofs.tables.works_alike.Goals as goal

pub returns : goal.returns
returns g c = λ task. works_alike g.K.Cost task
