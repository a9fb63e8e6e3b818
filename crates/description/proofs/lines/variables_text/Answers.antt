use Rattle.std.proofs.Common.{◌+◌, ◌++◌, length, drop, string_bytes, ap, ◌∙◌, length-append, rules}
use Rattle.std.proofs.lemmas.Iterator.{YieldsList-from_slice, YieldsList-from_zip}
use Rattle.std.proofs.lemmas.Iterator.Consumers.{YieldsList-from_enumerate, YieldsList-turn, YieldsList-end}
use Rattle.description.specs.Texts.{variable_line, variable_lines}
use Rattle.description.proofs.Appends.{one_more, no_more}
use Rattle.description.proofs.Places.{lines_more, lines_end}
use Rattle.description.proofs.lines.variables_text.Goals as goal

pub loop-v-preserved : goal.loop-v-preserved
loop-v-preserved c =
    let t = c.args.task.now in
    let n = length c.loop-v.yielded in
    let ns = t.values.now in
    let ss = t.start.now in
    let gs = t.goal.now in
    let line = variable_line c.in-Some.v c.in-Some.count.now c.in-Some.start.now c.in-Some.goal.now in
    rw (length-append c.loop-v.yielded _)
    (one_more (string_bytes c.loop-v.text) _ (variable_lines 0 ns ss gs) c.loop-v.invariant (string_bytes c.push_str.new.self) line
    (variable_lines (n + 1) (drop (n + 1) ns) (drop (n + 1) ss) (drop (n + 1) gs))
    (c.in_ok-push_str.ensures.bytes ∙ ap (λ s. string_bytes c.loop-v.text ++ s) (c.as_str.ensures.value ∙ c.in_ok-line.ensures))
    (lines_more ns ss gs n c.in-Some.v c.in-Some.count.now c.in-Some.start.now c.in-Some.goal.now
    (YieldsList-turn (YieldsList-from_enumerate (YieldsList-from_zip (YieldsList-from_zip (YieldsList-from_slice t.values.now (cc)) (YieldsList-from_slice t.start.now (search rules))) (YieldsList-from_slice t.goal.now (search rules))) (cc))
    c.loop-v.yielded c.loop-v.v-iterator c.loop-v.yielded_by c.next.result c.next.new.self _ c.in-Some.is c.next.ensures.steps)))

pub returns : goal.returns
returns c =
    let t = c.args.task.now in
    no_more (string_bytes c.loop-v.text) _ (variable_lines 0 t.values.now t.start.now t.goal.now) c.loop-v.invariant
    (lines_end t.values.now t.start.now t.goal.now (length c.loop-v.yielded)
    (YieldsList-end (YieldsList-from_enumerate (YieldsList-from_zip (YieldsList-from_zip (YieldsList-from_slice t.values.now (cc)) (YieldsList-from_slice t.start.now (cc))) (YieldsList-from_slice t.goal.now (cc))) (cc))
    c.loop-v.yielded c.loop-v.v-iterator c.loop-v.yielded_by c.next.result c.next.new.self c.in-None.is c.next.ensures.steps).1)
