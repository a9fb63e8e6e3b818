use Rattle.task.specs.Answers.{held}
use Rattle.search.proofs.Founds.{plans_on}
use Rattle.search.proofs.jobs.Found.plan.Goals as goal

pub returns : goal.returns
returns g c = plans_on c.args.file.now (held c.in-Ok.accepted.task) c.args.self.now c.args.t.now c.in-Ok.ensures.reading c.args.out.now c.plan_on.result c.plan_on.new.out c.plan_on.ensures
