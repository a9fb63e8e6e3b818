use Rattle.std.proofs.Common.{◌≡◌, ℕ, ◌+◌, ◌-◌, ◌≤◌, true, length}
use Rattle.task.specs.Files.{name_in, named}
use Rattle.task.proofs.names.look_up.Given as goal

-- the name asked for is one of those that are left, and so many of these are left
abbrev pub invariant-loop-i : goal.invariant-loop-i
invariant-loop-i l = record {
  part : length l.rest ≤ length l.names;
  same : name_in l.base l.names l.k ≡ name_in (l.base + (length l.names - length l.rest)) l.rest (l.k - l._i);
  lawful : (m : ℕ) → named m l.names ≡ true → named (m - l._i) l.rest ≡ true;
}
