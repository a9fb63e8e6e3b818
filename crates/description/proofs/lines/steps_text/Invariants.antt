use Rattle.std.proofs.Common.{◌≡◌, ◌-◌, ◌++◌, string_bytes}
use Rattle.task.specs.Answers.{held}
use Rattle.description.specs.Texts.{step_lines}
use Rattle.description.proofs.lines.steps_text.Given as goal

-- what is there and what is left make the whole
abbrev pub invariant-loop-k : goal.invariant-loop-k
invariant-loop-k l =
    string_bytes l.text ++ step_lines (held l.accepted.task) l.k (l.count - l.k) ≡ step_lines (held l.accepted.task) 0 l.count
