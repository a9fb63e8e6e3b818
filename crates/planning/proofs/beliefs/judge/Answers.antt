use Rattle.planning.proofs.Laws.{beliefs_judged}
use Rattle.planning.proofs.beliefs.judge.Goals as goal

pub returns : goal.returns
returns c = beliefs_judged
