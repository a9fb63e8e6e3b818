use Rattle.std.proofs.Common.{[], length, refl, ap, ◌∙◌}
use Rattle.rows.specs.Calls.{over}
use Rattle.task.specs.Layouts.{entry}
use Rattle.task.proofs.Pieces.{Done, next, five_entries}
use Rattle.task.proofs.addressable.Addressable.put_contents.Goals as goal

pub returns : goal.returns
returns c =
    let old = c.args.out.now in
    let t = c.args.self.now.task in
    let none : Done 0 [] old old = record { long = refl; is = refl } in
    let one = next {to = 8} (entry 40 (length t.values.now)) none refl c.put_entry-start.ensures.after in
    let two = next {to = 16} (entry c.put_entry-start.result (length t.start.now)) one refl c.put_entry-goal.ensures.after in
    let three = next {to = 24} (entry c.put_entry-goal.result (length t.goal.now)) two refl c.put_entry-moves.ensures.after in
    let four = next {to = 32} (entry c.put_entry-moves.result (length t.moves.now)) three refl c.put_entry-names.ensures.after in
    let five = next {to = 40} (entry c.put_entry-names.result (length t.names.now)) four refl c.put_entry.ensures.after in
    five.is ∙ ap (λ d. over d old) (five_entries (length t.values.now) (length t.start.now) (length t.goal.now) (length t.moves.now) (length t.names.now) _ _ _ _
    c.put_entry-start.ensures.end c.put_entry-goal.ensures.end c.put_entry-moves.ensures.end c.put_entry-names.ensures.end)
