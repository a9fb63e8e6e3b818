use Rattle.std.proofs.Common.{refl, arith}
use Rattle.chains.specs.Chains.{torn, short}
use Rattle.chains.proofs.read_chain.Goals as goal

pub returns-in_default-clause-read : goal.returns-in_default-clause-read
returns-in_default-clause-read g c = (torn c.in_default.ensures, refl)

pub returns-then-not-has_cells-clause-read : goal.returns-then-not-has_cells-clause-read
returns-then-not-has_cells-clause-read g c = let h = c.in-Some.ensures in (short h.1 (omega (arith, h.2)), refl)
