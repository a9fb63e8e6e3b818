use Rattle.task.proofs.Acceptings.{accepts}
use Rattle.task.proofs.Restorings.{restores}
use Rattle.task.proofs.reader.read.Goals as goal

pub returns : goal.returns
returns c = record {
  reading = c.parse.ensures;
  accepted = accepts c.args.file.now c.parse.result c.parse.ensures;
  restored = restores c.args.file.now c.type_inv.file c.parse.result c.parse.ensures;
}
