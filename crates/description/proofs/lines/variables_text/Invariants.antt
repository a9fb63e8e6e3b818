use Rattle.std.proofs.Common.{◌≡◌, ◌++◌, length, drop, string_bytes}
use Rattle.description.specs.Texts.{variable_lines}
use Rattle.description.proofs.lines.variables_text.Given as goal

-- what is there and what is left make the whole
abbrev pub invariant-loop-v : goal.invariant-loop-v
invariant-loop-v l =
    let n = length l.yielded in
    string_bytes l.text ++ variable_lines n (drop n l.task.values.now) (drop n l.task.start.now) (drop n l.task.goal.now)
    ≡ variable_lines 0 l.task.values.now l.task.start.now l.task.goal.now
