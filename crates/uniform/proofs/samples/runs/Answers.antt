use Rattle.uniform.proofs.Lines.{sample_runs}
use Rattle.uniform.proofs.samples.runs.Goals as goal

pub returns : goal.returns
returns c = sample_runs
