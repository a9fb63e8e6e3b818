use Rattle.std.proofs.Common.{◌≤◌, Some, subst, ◌∙◌}
use Rattle.task.specs.Answers.{held, Steps}
use Rattle.task.specs.Files.{move_count}
use Rattle.steps.proofs.Tasks.{accepted_task, no_step, step_back, step_price, step_even, placed_yes, placed_no}
use Rattle.steps.proofs.regress.Goals as goal

pub returns-in_err-step : goal.returns-in_err-step
returns-in_err-step c = let b = held c.args.accepted.now.task in rw c.from_residual.ensures (no_step b c.args.m c.args.row.now (subst (λ z. move_count b ≤ z) c.from.ensures c.in_err-step.ensures))

pub returns-then-regress_row : goal.returns-then-regress_row
returns-then-regress_row c =
    let b = held c.args.accepted.now.task in
    let s = c.in_ok-step.step in
    let h = subst (λ z. Steps b z (Some s)) c.from.ensures c.in_ok-step.ensures in
    (step_back b c.args.m s c.args.row.now h ∙ placed_yes _ _ c.args.out.now c.regress_row.new.out c.if-regress_row.ensures, step_price b c.args.m s h)

pub returns-else-regress_row : goal.returns-else-regress_row
returns-else-regress_row c =
    let a = c.args.accepted.now in
    let b = held a.task in
    let s = c.in_ok-step.step in
    let h = subst (λ z. Steps b z (Some s)) c.from.ensures c.in_ok-step.ensures in
    step_back b c.args.m s c.args.row.now h ∙ placed_no _ _ c.args.out.now c.regress_row.new.out
    (step_even b c.args.m s c.args.row.now c.args.out.now (accepted_task b a.counted a.positioned a.priced) h c.requires.row c.requires.out) c.if-regress_row.ensures
