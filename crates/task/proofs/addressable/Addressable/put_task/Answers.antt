use Rattle.std.proofs.Common.{refl, ◌∙◌}
use Rattle.task.specs.Answers.{held}
use Rattle.task.specs.Layouts.{contents, parts}
use Rattle.task.proofs.Pieces.{over_more}
use Rattle.task.proofs.addressable.Addressable.put_task.Goals as goal

pub returns : goal.returns
returns c =
    let b = held c.args.self.now.task in
    record {
      end = c.put_bodies.ensures.end;
      after = c.put_bodies.ensures.after ∙ over_more (contents b) (parts b) c.args.out.now c.put_contents.new.out 40 refl c.put_contents.ensures;
    }
