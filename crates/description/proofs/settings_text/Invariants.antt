use Rattle.std.proofs.Common.{◌≡◌, ◌++◌, drop, string_bytes}
use Rattle.description.specs.Texts.{settings}
use Rattle.description.proofs.settings_text.Given as goal

-- what is there and what is left make the whole
abbrev pub invariant-loop-v : goal.invariant-loop-v
invariant-loop-v l = string_bytes l.text ++ settings l.v (drop l.v l.row) ≡ settings 0 l.row
