use Rattle.std.proofs.Common.{◌-◌, length, subst, arith, rules}
use Rattle.task.specs.Answers.{held, LooksUp}
use Rattle.task.proofs.Acceptings.{named_in_file, ending}
use Rattle.task.proofs.names.name.Goals as goal

pub look_up-requires : goal.look_up-requires
look_up-requires c = record {
  lawful = search rules;
  within = omega (arith, ending c.args.file.now (held c.in_ok-names.field-0.task) c.in_ok-names.ensures.reading);
}

pub returns : goal.returns
returns c =
    let t = c.in_ok-names.field-0.task in
    let p = named_in_file c.args.file.now (held t) c.args.number c.look_up.result c.in_ok-names.ensures.reading
    (subst (λ k. LooksUp (length c.args.file.now - length t.names.now) t.names.now k c.look_up.result) c.from.ensures c.look_up.ensures) in
    record { naming = p.0; part = p.1 }
