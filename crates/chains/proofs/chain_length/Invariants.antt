use Rattle.chains.proofs.Ways.{Counted}
use Rattle.chains.proofs.chain_length.Given as goal

abbrev pub invariant-loop-at : goal.invariant-loop-at
invariant-loop-at g l = Counted l.records l.moves l.node l.at l.count

abbrev pub decreases-loop-at : goal.decreases-loop-at
decreases-loop-at g l = l.at
