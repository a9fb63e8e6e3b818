use Rattle.chains.proofs.Chains.{never_both, one_chain, few_moves, one_reading}
use Rattle.chains.proofs.chains_hold.Goals as goal

pub returns : goal.returns
returns g c = record {
  apart = λ n ns broken chain. never_both c.args.records.now c.args.moves broken chain;
  one = one_chain c.args.records.now c.args.moves;
  few = λ n ns chain. few_moves c.args.records.now c.args.moves chain;
  same = one_reading c.args.records.now c.args.moves;
}
