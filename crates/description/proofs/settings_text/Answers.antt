use Rattle.std.proofs.Common.{◌+◌, ◌++◌, get_or, drop, string_bytes, ap, ◌∙◌, arith}
use Rattle.std.proofs.lemmas.List.{at_drop_more, at_drop_all}
use Rattle.description.specs.Texts.{setting, settings}
use Rattle.description.proofs.Appends.{one_more, no_more}
use Rattle.description.proofs.settings_text.Goals as goal

pub loop-v-preserved : goal.loop-v-preserved
loop-v-preserved c =
    let v = c.loop-v.v in
    let row = c.args.row.now in
    one_more (string_bytes c.loop-v.text) (settings v (drop v row)) (settings 0 row) c.loop-v.invariant
    (string_bytes c.push_str.new.self) (setting v (get_or row v 0)) (settings (v + 1) (drop (v + 1) row))
    (c.in_ok-push_str.ensures.bytes ∙ ap (λ t. string_bytes c.loop-v.text ++ t) (c.as_str.ensures.value ∙ c.in_ok-one.ensures))
    (at_drop_more (settings v) row v 0 (omega arith))

pub returns : goal.returns
returns c =
    let v = c.loop-v.v in
    let row = c.args.row.now in
    no_more (string_bytes c.loop-v.text) (settings v (drop v row)) (settings 0 row) c.loop-v.invariant
    (at_drop_all (settings v) row v (omega arith))
