use Rattle.follow.proofs.Repeats.{repeatable}
use Rattle.follow.proofs.jobs.jobs_repeat.Goals as goal

pub returns : goal.returns
returns g c = repeatable g.K.Cost g.S.Store g.Q.Queue g.R.Store g.P.Queue
