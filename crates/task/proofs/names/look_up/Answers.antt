use Rattle.std.proofs.Common.{◌≡◌, Some, suc, ◌+◌, ◌-◌, length, sym, ap, ◌∙◌, subst, arith, length-append}
use Rattle.task.specs.Files.{name_in, named}
use Rattle.task.specs.Answers.{LooksUp}
use Rattle.task.proofs.NameLists.{name_more, name_here, name_not, left_more}
use Rattle.task.proofs.names.look_up.Goals as goal

pub returns-in_err-after : goal.returns-in_err-after
returns-in_err-after c =
    let h = c.loop-i.invariant in
    let m = c.requires.lawful.0 in
    subst (LooksUp c.args.base c.args.names.now c.args.k) (sym c.from_residual.ensures)
    (h.same ∙ name_not (m - c.loop-i._i) _ _ c.loop-i.rest.now (h.lawful m c.requires.lawful.1) c.in_err-after.ensures)

pub loop-i-preserved : goal.loop-i-preserved
loop-i-preserved c =
    let h = c.loop-i.invariant in
    let bs = c.args.names.now in
    let name = c.in_ok-after.field-0-0.now in
    let after = c.in_ok-after.after.now in
    let is = c.in_ok-after.ensures in
    let k = c.args.k - (c.loop-i._i + 1) in
    let at = c.args.base + (length bs - length c.loop-i.rest.now) in
    let long : length c.loop-i.rest.now ≡ suc (length name + length after) = ap length is ∙ ap suc (length-append name after) in
    let left : c.args.k - c.loop-i._i ≡ suc k = omega arith in
    record {
      part = omega (arith, long, h.part);
      same = h.same ∙ ap (name_in at c.loop-i.rest.now) left ∙ ap (λ xs. name_in at xs (suc k)) is ∙ name_more name after at k
          ∙ ap (λ i. name_in i after k) (omega (arith, long, h.part));
      lawful = λ m n. left_more name after (m - c.loop-i._i) (m - (c.loop-i._i + 1)) (ap (named (m - c.loop-i._i)) (sym is) ∙ h.lawful m n) (omega arith);
    }

pub returns-in_err-name : goal.returns-in_err-name
returns-in_err-name c =
    let h = c.loop-i.invariant in
    let m = c.requires.lawful.0 in
    subst (LooksUp c.args.base c.args.names.now c.args.k) (sym c.from_residual-in_err-name.ensures)
    (h.same ∙ name_not (m - c.loop-i._i) _ _ c.loop-i.rest.now (h.lawful m c.requires.lawful.1) c.in_err-name.ensures)

pub returns : goal.returns
returns c =
    let h = c.loop-i.invariant in
    let bs = c.args.names.now in
    let name = c.in_ok-name.name.now in
    let after = c.in_ok-name.after.now in
    let is = c.in_ok-name.ensures in
    let at = c.args.base + (length bs - length c.loop-i.rest.now) in
    let long : length c.loop-i.rest.now ≡ suc (length name + length after) = ap length is ∙ ap suc (length-append name after) in
    let left : c.args.k - c.loop-i._i ≡ 0 = omega arith in
    h.same ∙ ap (name_in at c.loop-i.rest.now) left ∙ ap (λ xs. name_in at xs 0) is ∙ name_here name after at
    ∙ ap (λ i. Some (name, i)) (omega (arith, long, h.part))
