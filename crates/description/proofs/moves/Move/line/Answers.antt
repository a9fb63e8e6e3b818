use Rattle.std.proofs.Common.{◌≡◌, ℕ, List, ap, ◌∙◌}
use Rattle.std.proofs.lemmas.Result.{IfOk-weaker}
use Rattle.rows.specs.Rows.{pulled}
use Rattle.description.specs.Texts.{settings, goal_text, rows_text, move_text}
use Rattle.description.proofs.Printables.{printable_text}
use Rattle.description.proofs.moves.Move.line.Goals as goal

same_text : (k p : ℕ) (a b d e : List ℕ) → a ≡ b → d ≡ e → move_text k a p d ≡ move_text k b p e
same_text k p a b d e x y = ap (λ t. move_text k t p d) x ∙ ap (move_text k b p) y

pub returns : goal.returns
returns c =
    let y = c.args.self.now.step.operator.condition.now in
    let x = c.args.self.now.step.operator.effect.now in
    let name = c.as_str.ensures.value ∙ c.in_ok-name.ensures.ok (printable_text c.args.self.now.name.now c.args.self.now.printable) in
    let rows = c.as_str-2.ensures.value ∙ c.in_ok-rows.ensures in
    IfOk-weaker c.move_text.result _ _
    (λ t h. h ∙ same_text c.args.self.now.number c.args.self.now.step.price c.as_str.result.now c.args.self.now.name.now c.as_str-2.result.now
    (rows_text (settings 0 y) (settings 0 x) (goal_text (pulled y x c.args.self.now.goal.now))) name rows)
    c.move_text.ensures
