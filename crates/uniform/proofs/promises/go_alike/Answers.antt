use Rattle.uniform.proofs.Alikes.{go_alike}
use Rattle.uniform.proofs.promises.go_alike.Goals as goal

pub returns : goal.returns
returns g c = λ le. go_alike g.S.Setting.arithmetic g.S.Setting.space g.S.Setting.lawful c.args.capacity c.args.other le
