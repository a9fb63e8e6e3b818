use Rattle.uniform.proofs.Goods.{joins_few}
use Rattle.uniform.proofs.promises.joins_few.Goals as goal

pub returns : goal.returns
returns g c = joins_few g.S.Setting.arithmetic g.S.Setting.space g.S.Setting.lawful c.args.node
