use Rattle.std.proofs.Common.{◌≡◌, ltb, length, sym, ap, ◌∙◌, arith}
use Rattle.std.proofs.lemmas.Result.{IfOk-weaker}
use Rattle.std.proofs.lemmas.Bool.{cond-false, le-ltb}
use Rattle.task.specs.Answers.{held}
use Rattle.description.specs.Texts.{answered, described, refused_line, task_text}
use Rattle.description.proofs.lines.describe.Goals as goal

pub returns-in-Err : goal.returns-in-Err
returns-in-Err c =
    let input = c.args.input.now in
    let short : described input ≡ refused_line c.in-Err.fault
    = cond-false (ltb 32768 (length input)) _ _ (le-ltb 32768 (length input) (omega arith)) ∙ ap answered c.in-Err.ensures.reading in
    IfOk-weaker c.refused_line.result _ _ (λ t h. h ∙ sym short) c.refused_line.ensures

pub returns-in-Ok : goal.returns-in-Ok
returns-in-Ok c =
    let input = c.args.input.now in
    let whole : described input ≡ task_text (held c.in-Ok.accepted.task)
    = cond-false (ltb 32768 (length input)) _ _ (le-ltb 32768 (length input) (omega arith)) ∙ ap answered c.in-Ok.ensures.reading in
    IfOk-weaker c.task_text.result _ _ (λ t h. h ∙ sym whole) c.task_text.ensures
