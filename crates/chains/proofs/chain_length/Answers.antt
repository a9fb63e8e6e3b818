use Rattle.std.proofs.Common.{◌+◌, sym, subst, arith}
use Rattle.chains.proofs.Ways.{Counted, counted_more, counted_broken, counted_all}
use Rattle.chains.proofs.chain_length.Goals as goal

pub returns-in_err-at : goal.returns-in_err-at
returns-in_err-at g c = rw c.from_residual.ensures (counted_broken c.args.records.now c.args.moves c.loop-at.invariant (omega arith) c.in_err-at.ensures)

pub loop-at-preserved : goal.loop-at-preserved
loop-at-preserved g c =
    let h = c.in_ok-at.ensures in
    subst (λ z. Counted c.args.records.now c.args.moves c.args.node z (c.loop-at.count + 1)) (sym h.2)
    (counted_more c.args.records.now c.args.moves h.0 c.loop-at.invariant h.1)

pub returns : goal.returns
returns g c = counted_all c.args.records.now c.args.moves c.loop-at.invariant (omega arith)
