use Rattle.device.specs.Answers.{too_long, refused_file, long, refused, searched}
use Rattle.device.proofs.Meanings.{one_text, cost_means, none_means, space_means}
use Rattle.device.proofs.Lengths.{enough}
use Rattle.device.proofs.answers.answer.Goals as goal

pub returns-then-is_too_long : goal.returns-then-is_too_long
returns-then-is_too_long c =
    let s = long c.if-is_too_long.ensures in
    record {
      shown = (too_long, s, c.write_text.ensures);
      one = one_text;
      cheapest = cost_means;
      none = none_means;
      space = space_means;
      enough = enough c.args.input.now too_long c.args.out.now c.write_text.new.out c.write_text.result s c.write_text.ensures;
    }

pub returns-in-Err : goal.returns-in-Err
returns-in-Err c =
    let s = refused c.if-is_too_long.ensures c.in-Err.ensures.reading in
    record {
      shown = (refused_file, s, c.write_text-in-Err.ensures);
      one = one_text;
      cheapest = cost_means;
      none = none_means;
      space = space_means;
      enough = enough c.args.input.now refused_file c.args.out.now c.write_text-in-Err.new.out c.write_text-in-Err.result s c.write_text-in-Err.ensures;
    }

pub returns-in-Ok : goal.returns-in-Ok
returns-in-Ok c =
    let h = c.answer_for.ensures in
    let s = searched c.if-is_too_long.ensures c.in-Ok.ensures.reading h.1 in
    record {
      shown = (h.0, s, h.2);
      one = one_text;
      cheapest = cost_means;
      none = none_means;
      space = space_means;
      enough = enough c.args.input.now h.0 c.args.out.now c.answer_for.new.out c.answer_for.result s h.2;
    }
