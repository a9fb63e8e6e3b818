use Rattle.std.proofs.Common.{◌≡◌, ◌-◌}
use Rattle.task.specs.Files.{named}
use Rattle.task.proofs.checks.are_names.Given as goal

-- the names that are left decide
abbrev pub invariant-loop-k : goal.invariant-loop-k
invariant-loop-k l = named l.count l.names ≡ named (l.count - l._k) l.rest
