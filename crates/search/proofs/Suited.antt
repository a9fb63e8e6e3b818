-- A file that is refused suits no job.
use Rattle.std.proofs.Common.{◌≡◌, ℕ, List, Err, sym, ◌∙◌}
use Rattle.task.specs.declared.faults.Fault.{Fault}
use Rattle.task.specs.Files.{reading}
use Rattle.task.proofs.Readings.{no_err}
use Rattle.search.specs.declared.jobs.Shape.{Shape}
use Rattle.search.specs.Files.{Unsuited}

pub never_suited : (file : List ℕ) (f : Fault) (h : Shape) → reading file ≡ Err f → Unsuited file h
never_suited file f h e = λ b x. no_err f b (sym e ∙ x.reads)
