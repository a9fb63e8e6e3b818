use Rattle.task.specs.Answers.{held}
use Rattle.search.proofs.Founds.{costs_on}
use Rattle.search.proofs.jobs.Found.cost.Goals as goal

pub returns : goal.returns
returns g c = costs_on c.args.file.now (held c.in-Ok.accepted.task) c.args.self.now c.args.t.now c.in-Ok.ensures.reading c.cost_on.result c.cost_on.ensures
