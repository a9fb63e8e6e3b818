-- What an ending tells of plans, and the capacity that is never exceeded.
use Rattle.std.specs.Prelude.{ℕ, ◌+◌, ◌*◌, ◌^◌, Bool, true, false, cond, Some, None, Option, nat_lt}
use Rattle.uniform.specs.declared.promises.Ending.{Ending}
use Rattle.uniform.specs.declared.promises.Ending.TheVariants.{Found, NoPlan, OutOfSpace}

-- there is a plan, or there is none, or it is not told
abbrev pub tells : Ending → Option Bool
tells Found = Some true
tells NoPlan = Some false
tells OutOfSpace = None

-- 1 + P × M, where it is below 2 ^ 64
abbrev pub rooms : ℕ → ℕ → Option ℕ
rooms rows moves = cond (nat_lt (rows * moves + 1) (2 ^ 64)) (Some (rows * moves + 1)) None
