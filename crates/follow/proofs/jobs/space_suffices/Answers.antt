use Rattle.follow.proofs.Promises.{jobs_roomy}
use Rattle.follow.proofs.jobs.space_suffices.Goals as goal

pub returns : goal.returns
returns g c = jobs_roomy g.K.Cost g.S.Store g.Q.Queue
