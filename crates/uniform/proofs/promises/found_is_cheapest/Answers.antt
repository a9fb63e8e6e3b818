use Rattle.uniform.proofs.Goods.{found_cheapest}
use Rattle.uniform.proofs.promises.found_is_cheapest.Goals as goal

pub returns : goal.returns
returns g c = found_cheapest g.S.Setting.arithmetic g.S.Setting.space g.S.Setting.lawful
