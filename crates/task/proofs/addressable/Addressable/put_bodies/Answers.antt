use Rattle.std.proofs.Common.{◌≡◌, ◌++◌, take, ap, ◌∙◌, append_assoc, arith}
use Rattle.rows.specs.Calls.{over}
use Rattle.task.proofs.Pieces.{next, from}
use Rattle.task.proofs.addressable.Addressable.put_bodies.Goals as goal

pub returns : goal.returns
returns c =
    let old = c.args.out.now in
    let t = c.args.self.now.task in
    let values = t.values.now in
    let start = t.start.now in
    let goal = t.goal.now in
    let moves = t.moves.now in
    let names = t.names.now in
    let none = from 40 old (omega arith) in
    let one = next values none c.put-start.ensures.end c.put-start.ensures.after in
    let two = next start one c.put-goal.ensures.end c.put-goal.ensures.after in
    let three = next goal two c.put-moves.ensures.end c.put-moves.ensures.after in
    let four = next moves three c.put-names.ensures.end c.put-names.ensures.after in
    let five = next names four c.put.ensures.end c.put.ensures.after in
    let joined : take 40 old ++ values ++ start ++ goal ++ moves ++ names ≡ take 40 old ++ (values ++ (start ++ (goal ++ (moves ++ names)))) = simp append_assoc in
    record { end = omega arith; after = five.is ∙ ap (λ d. over d old) joined }
