use Rattle.std.proofs.Common.{ℕ, ◌≤◌, List, length}
use Rattle.chains.specs.Chains.{Chain}
use Rattle.chains.proofs.Ways.{Written}
use Rattle.chains.proofs.write_chain.Given as goal

abbrev pub invariant-loop-cell : goal.invariant-loop-cell
invariant-loop-cell g l = (moves : ℕ) (ns : List ℕ) → Chain l.records moves l.node ns → length ns ≤ length l.initial.out → Written l.records moves ns l.initial.out l.at l.cell-index l.out
