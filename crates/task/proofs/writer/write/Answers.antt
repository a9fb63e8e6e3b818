use Rattle.task.specs.Answers.{held}
use Rattle.task.proofs.Writings.{back}
use Rattle.task.proofs.writer.write.Goals as goal

pub returns : goal.returns
returns c = record {
  writing = c.fill.ensures;
  read_back = back (held c.args.task.now) c.args.out.now c.fill.new.out c.fill.result c.fill.ensures;
}
