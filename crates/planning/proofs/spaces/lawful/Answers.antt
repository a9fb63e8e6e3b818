use Rattle.planning.proofs.Regressions.{regression_lawful}
use Rattle.planning.proofs.spaces.lawful.Goals as goal

pub returns : goal.returns
returns c = regression_lawful
