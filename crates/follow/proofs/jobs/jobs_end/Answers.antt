use Rattle.follow.proofs.Promises as promises
use Rattle.follow.proofs.jobs.jobs_end.Goals as goal

pub returns : goal.returns
returns g c = record { ends = promises.jobs_end g.K.Cost g.S.Store g.Q.Queue; defined = promises.jobs_defined g.K.Cost g.S.Store g.Q.Queue }
