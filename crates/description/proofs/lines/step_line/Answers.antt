use Rattle.std.proofs.Common.{length, sym, ap, ◌∙◌, arith}
use Rattle.rows.specs.Rows.{Move}
use Rattle.task.specs.Files.{move_count}
use Rattle.task.specs.Answers.{held}
use Rattle.task.proofs.Judgings.{counted, level}
use Rattle.task.proofs.NameLists.{name_printable, name_there}
use Rattle.description.proofs.lines.step_line.Goals as goal

pub invariant_of-shown : goal.invariant_of-shown
invariant_of-shown c =
    let a = c.args.accepted.now in
    let b = held a.task in
    let k = c.args.k in
    let m = level b a.positioned k c.requires in
    let same = c.in-Some.ensures.1 in
    let counts = counted b a.counted in
    record {
      printable = name_printable (move_count b) k 0 b.names c.in-Some-name.name.now c.in-Some-name.field-0-1 a.named c.requires c.in-Some-name.ensures;
      condition = ap (λ (x : Move). length x.condition) same ∙ m.condition ∙ sym counts.goal;
      effect = ap (λ (x : Move). length x.effect) same ∙ m.effect ∙ sym counts.goal;
      few = omega (arith, counts.goal, counts.few);
    }

pub returns-in_default-name : goal.returns-in_default-name
returns-in_default-name c =
    let b = held c.args.accepted.now.task in
    absurd (name_there (move_count b) c.args.k 0 b.names c.args.accepted.now.named c.requires c.in_default-name.ensures)
