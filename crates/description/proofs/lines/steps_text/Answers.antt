use Rattle.std.proofs.Common.{◌≡◌, suc, ◌+◌, ◌-◌, ◌++◌, string_bytes, ap, ◌∙◌, arith}
use Rattle.task.specs.Answers.{held}
use Rattle.description.specs.Texts.{step_line, step_lines}
use Rattle.description.proofs.Appends.{one_more}
use Rattle.description.proofs.lines.steps_text.Goals as goal

pub loop-k-preserved : goal.loop-k-preserved
loop-k-preserved c =
    let k = c.loop-k.k in
    let b = held c.args.accepted.now.task in
    let n = c.count-count.result in
    let left : n - k ≡ suc (n - (k + 1)) = omega arith in
    one_more (string_bytes c.loop-k.text) (step_lines b k (n - k)) (step_lines b 0 n) c.loop-k.invariant
    (string_bytes c.push_str.new.self) (step_line b k) (step_lines b (k + 1) (n - (k + 1)))
    (c.in_ok-push_str.ensures.bytes ∙ ap (λ t. string_bytes c.loop-k.text ++ t) (c.as_str.ensures.value ∙ c.in_ok-line.ensures))
    (ap (step_lines b k) left)
