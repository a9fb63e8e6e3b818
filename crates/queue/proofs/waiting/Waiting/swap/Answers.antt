use Rattle.std.proofs.Common.{ap, ◌∙◌}
use Rattle.queue.specs.Places.{front}
use Rattle.queue.proofs.Fronts.{front_swap}
use Rattle.queue.proofs.waiting.Waiting.swap.Goals as goal

pub returns-then-b-self-clause-items : goal.returns-then-b-self-clause-items
returns-then-b-self-clause-items g c = λ ha hb.
    let w = c.args.self.now in
    ap (front w.count) c.swap.ensures.after ∙ front_swap w.count w.places.now c.args.a c.args.b ha hb
