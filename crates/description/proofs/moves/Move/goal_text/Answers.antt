use Rattle.std.proofs.Common.{ℕ, List, ◌++◌, codes, sym, ap, ◌∙◌}
use Rattle.std.proofs.lemmas.Result.{IfOk-weaker}
use Rattle.rows.specs.Rows.{pulled}
use Rattle.rows.specs.Calls.{even}
use Rattle.rows.proofs.Outcomes.{even_from, placing_some, placing_none}
use Rattle.description.specs.Texts.{goal_text}
use Rattle.description.proofs.moves.Move.goal_text.Goals as goal

pub returns-then-not-regress_row : goal.returns-then-not-regress_row
returns-then-not-regress_row c =
    let m = c.args.self.now in
    let y = m.step.operator.condition.now in
    let x = m.step.operator.effect.now in
    let g = m.goal.now in
    let out = c.args.before.now in
    let p = (placing_none (even y x g out) (pulled y x g) out c.regress_row.new.out (even_from y x g out m.condition m.effect c.requires) c.if-not-regress_row.ensures).0 in
    IfOk-weaker c.from_str.result _ _ (λ t h. h ∙ sym (ap goal_text p)) c.from_str.ensures.ok

pub returns : goal.returns
returns c =
    let m = c.args.self.now in
    let y = m.step.operator.condition.now in
    let x = m.step.operator.effect.now in
    let g = m.goal.now in
    let out = c.args.before.now in
    let p = placing_some (even y x g out) (pulled y x g) out c.regress_row.new.out (even_from y x g out m.condition m.effect c.requires) c.if-not-regress_row.ensures in
    IfOk-weaker c.regressed_text.result _ _
    (λ t h. h ∙ ap (λ (s : List ℕ). codes "regressed:" ++ s) (c.as_str.ensures.value ∙ c.in_ok-text.ensures) ∙ sym (ap goal_text p))
    c.regressed_text.ensures
