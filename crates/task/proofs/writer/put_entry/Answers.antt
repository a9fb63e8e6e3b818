use Rattle.std.proofs.Common.{◌≡◌, ◌++◌, length, take, ap, ◌∙◌, append_assoc, arith, length-append}
use Rattle.std.proofs.lemmas.List.{length-take-le}
use Rattle.rows.specs.Calls.{over}
use Rattle.task.specs.Layouts.{coded}
use Rattle.task.proofs.Pieces.{over_more}
use Rattle.task.proofs.writer.put_entry.Goals as goal

pub returns : goal.returns
returns c =
    let old = c.args.out.now in
    let at = c.args.at in
    let front = take at old in
    let middle = c.put-middle.result in
    let buffer = c.put-middle.new.out in
    let one : c.to_le_bytes.result ≡ coded c.args.place = c.to_le_bytes.ensures in
    let two : c.to_le_bytes-2.result ≡ coded (length c.args.body.now) = c.to_le_bytes-2.ensures in
    let first : buffer ≡ over (front ++ coded c.args.place) old = c.put-middle.ensures.after ∙ ap (λ p. over (front ++ p) old) one in
    let long : middle ≡ length (front ++ coded c.args.place)
    = omega (arith, c.put-middle.ensures.end, ap length one, length-append front (coded c.args.place), length-take-le at old (omega arith)) in
    record {
      end = omega arith;
      after = c.put.ensures.after ∙ ap (λ p. over (take middle buffer ++ p) buffer) two
          ∙ over_more (front ++ coded c.args.place) (coded (length c.args.body.now)) old buffer middle long first
          ∙ ap (λ d. over d old) (append_assoc front (coded c.args.place) (coded (length c.args.body.now)));
    }
