use Rattle.std.proofs.Common.{◌≡◌, suc, ◌+◌, ◌-◌, sym, ap, ◌∙◌, arith}
use Rattle.task.specs.Files.{named}
use Rattle.task.proofs.NameLists.{named_more, named_stuck, named_not}
use Rattle.task.proofs.checks.are_names.Goals as goal

pub returns-in_default : goal.returns-in_default
returns-in_default c =
    let n = c.args.count - (c.loop-k._k + 1) in
    let left : c.args.count - c.loop-k._k ≡ suc n = omega arith in
    sym (c.loop-k.invariant ∙ ap (λ i. named i c.loop-k.rest.now) left ∙ named_not n c.loop-k.rest.now c.in_default.ensures)

pub returns-then-not-is_lawful : goal.returns-then-not-is_lawful
returns-then-not-is_lawful c =
    let n = c.args.count - (c.loop-k._k + 1) in
    let left : c.args.count - c.loop-k._k ≡ suc n = omega arith in
    sym (c.loop-k.invariant ∙ ap (λ i. named i c.loop-k.rest.now) left ∙ ap (named (suc n)) c.in-Some.ensures
    ∙ named_stuck c.in-Some.name.now c.in-Some.after.now n (sym c.is_lawful.ensures ∙ c.if-not-is_lawful.true))

pub loop-k-preserved : goal.loop-k-preserved
loop-k-preserved c =
    let n = c.args.count - (c.loop-k._k + 1) in
    let left : c.args.count - c.loop-k._k ≡ suc n = omega arith in
    c.loop-k.invariant ∙ ap (λ i. named i c.loop-k.rest.now) left ∙ ap (named (suc n)) c.in-Some.ensures
    ∙ named_more c.in-Some.name.now c.in-Some.after.now n (sym c.is_lawful.ensures ∙ c.if-not-is_lawful.false)
