use Rattle.std.proofs.Common.{rules}
use Rattle.task.specs.Answers.{held}
use Rattle.device.proofs.Searches.{tells}
use Rattle.device.proofs.answers.search_with.Goals as goal

pub returns : goal.returns
returns g c =
    tells c.args.input.now.bytes.now _ (held c.args.input.now.accepted.task) c.args.input.now.reads
    (record {
      bytes = c.requires.rows;
      records = c.requires.records;
      table = c.requires.table;
      kept = c.requires.kept;
      space = c.requires.space;
      waiting = c.requires.waiting;
      room = c.requires.room;
    }) c.args.moves.now c.solve.new.out c.solve.result (search rules) c.solve.ensures.tells
