-- What can be read from a job in any state, and from a working that was refused.
use Rattle.std.specs.Prelude.{ℕ, Option}
use Rattle.rows.specs.declared.refusals.Refusal.{Refusal}
use Rattle.rows.specs.declared.refusals.Refusal.TheVariants as refusal
use Rattle.steps.specs.declared.numbers.Progress.{Progress}
use Rattle.search.specs.declared.jobs.Worked.{Worked}
use Rattle.search.specs.declared.jobs.Worked.TheVariants.{Searching, Found, NoPlan, OutOfSpace}
use Rattle.search.specs.declared.jobs.Unworked.{Unworked}
use Rattle.search.specs.declared.jobs.Unworked.TheVariants.{Idle, Torn}

abbrev pub progress_of : Worked → Progress
progress_of (Searching j) = j.numbers.progress
progress_of (Found j) = j.progress
progress_of (NoPlan j) = j.progress
progress_of (OutOfSpace j) = j.progress

abbrev pub cover_of : Worked → Option ℕ
cover_of w = (progress_of w).cover

abbrev pub stored_of : Worked → ℕ
stored_of w = (progress_of w).stored

-- the refusal of the same name
abbrev pub refusal_of : Unworked → Refusal
refusal_of (Idle j) = refusal.Idle
refusal_of (Torn j n) = refusal.Torn
