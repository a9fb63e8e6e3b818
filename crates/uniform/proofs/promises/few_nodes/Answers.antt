use Rattle.uniform.proofs.Goods.{few_nodes, runs_orderly}
use Rattle.uniform.proofs.promises.few_nodes.Goals as goal

pub returns : goal.returns
returns g c =
    let a = g.S.Setting.arithmetic in
    let p = g.S.Setting.space in
    let law = g.S.Setting.lawful in
    record { few = few_nodes a p law; orderly = runs_orderly a p law }
