use Rattle.uniform.proofs.Goods.{no_plan_none}
use Rattle.uniform.proofs.promises.no_plan_is_none.Goals as goal

pub returns : goal.returns
returns g c = no_plan_none g.S.Setting.arithmetic g.S.Setting.space g.S.Setting.lawful
