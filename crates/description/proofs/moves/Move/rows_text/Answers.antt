use Rattle.std.proofs.Common.{◌≡◌, ℕ, List, ap, ◌∙◌}
use Rattle.std.proofs.lemmas.Result.{IfOk-weaker}
use Rattle.rows.specs.Rows.{pulled}
use Rattle.description.specs.Texts.{settings, goal_text, rows_text}
use Rattle.description.proofs.moves.Move.rows_text.Goals as goal

same_text : (a b d e f g : List ℕ) → a ≡ b → d ≡ e → f ≡ g → rows_text a d f ≡ rows_text b e g
same_text a b d e f g x y z = ap (λ t. rows_text t d f) x ∙ ap (λ t. rows_text b t f) y ∙ ap (rows_text b e) z

pub returns : goal.returns
returns c =
    let y = c.args.self.now.step.operator.condition.now in
    let x = c.args.self.now.step.operator.effect.now in
    let needs = c.as_str.ensures.value ∙ c.in_ok-needs.ensures in
    let sets = c.as_str-2.ensures.value ∙ c.in_ok-sets.ensures in
    let back = c.as_str-3.ensures.value ∙ c.in_ok-goal.ensures in
    IfOk-weaker c.rows_text.result _ _
    (λ t h. h ∙ same_text c.as_str.result.now (settings 0 y) c.as_str-2.result.now (settings 0 x) c.as_str-3.result.now (goal_text (pulled y x c.args.self.now.goal.now)) needs sets back)
    c.rows_text.ensures
