use Rattle.uniform.proofs.Endings.{ends_by}
use Rattle.uniform.proofs.promises.ends_by.Goals as goal

pub returns : goal.returns
returns g c = ends_by g.S.Setting.arithmetic g.S.Setting.space g.S.Setting.lawful c.args.capacity
