use Rattle.std.proofs.Common.{◌<◌, length, arith}
use Rattle.queue.specs.Items.{items}
use Rattle.queue.specs.Places.{length_front}
use Rattle.queue.proofs.Fronts.{front_read, front_swap_remove}
use Rattle.queue.proofs.waiting.Waiting.swap_remove.Goals as goal

pub returns-clause-taken : goal.returns-clause-taken
returns-clause-taken g c =
    let w = c.args.self.now in
    let here : c.args.at < length (items w) = omega (arith, length_front w.count w.places.now, w.inside, w.few, c.if-at-self.false) in
    (here, front_read w.count w.places.now c.args.at c.index-self-at.result w.inside w.few (omega (arith, c.if-at-self.false)), front_swap_remove w.count w.places.now c.args.at _ _ w.inside w.few here)
