use Rattle.std.proofs.Common.{◌≡◌, ◌+◌, ◌*◌, List, ◌∷◌, length, take, slice_set, length-set, refl, ap, ◌∙◌, subst, ⊎_elim, arith}
use Rattle.std.proofs.lemmas.List.Sorted.{IsPermutation-refl}
use Rattle.task.specs.Answers.{held}
use Rattle.queue.specs.declared.entries.Entry.{Entry}
use Rattle.queue.specs.Orders.{Added}
use Rattle.steps.specs.declared.tables.Record.{Record}
use Rattle.steps.specs.Memories.{Memory, width, written}
use Rattle.steps.specs.Steps.{stores}
use Rattle.steps.specs.Answers.{memory_in, task_in, ReadyAt}
use Rattle.steps.specs.Results.{Fresh}
use Rattle.rows.proofs.Both.{fits_length}
use Rattle.planning.proofs.Fits.{back_fits}
use Rattle.steps.proofs.Tasks.{accepted_task, fair_price}
use Rattle.steps.proofs.Moves.{ready_one, ready_as_many, joined_at, at_width}
use Rattle.steps.proofs.Additions.{adds_torn}
use Rattle.steps.proofs.workspaces.Workspace.add.Goals as goal

pub returns-in_err-cost : goal.returns-in_err-cost
returns-in_err-cost g c =
    let w = c.args.self.now in
    let a = w.accepted in
    adds_torn g.K.Cost g.S.Store g.Q.Queue c.args.m c.args.price _ w c.from_residual.result c.from_residual.ensures.1 (λ f rd.
    let le = fair_price (task_in w) c.args.m _ _ (accepted_task (held a.task) a.counted a.positioned a.priced) f.moved in
    let sd = rd.fit.sound in
    let e = ap g.K.Cost.joins (c.cost.ensures sd.noted ∙ ap (λ r. r.cost) sd.there.is) in
    ⊎_elim (λ h. omega (arith, f.priced, le, h.1)) (λ h. omega (arith, h.2, e, sd.joins, sd.node, rd.fit.within, rd.fit.short)) c.in_err-cost.ensures)

pub returns : goal.returns
returns g c =
    let w = c.args.self.now in
    let a = w.accepted in
    let task = task_in w in
    let row = take (width task) c.args.scratch.now in
    let k = w.progress.stored in
    let acc = accepted_task (held a.task) a.counted a.positioned a.priced in
    let s = memory_in g.S.Store g.Q.Queue w in
    let new : Record g.row.K.Denot = record { cost = c.in_ok-cost.cost; parent = w.node; step = c.args.m } in
    let e : Entry g.row.K.Denot = record { cost = c.in_ok-cost.cost; number = k } in
    let t : Memory g.row.K.Denot = record { bytes = c.write_row.new.bytes; records = slice_set w.records.now c.from.result new; table = s.table; kept = s.kept; space = s.space; waiting = e ∷ s.waiting; room = g.Q.Queue.room c.put.new.self; stored = k + 1; cover = s.cover } in
    let one = λ (f : Fresh g.K.Cost g.S.Store g.Q.Queue c.args.m c.args.price row w) (rd : ReadyAt g.K.Cost g.S.Store g.Q.Queue w w) (v : List (Entry g.row.K.Denot)) (ad : Added s.waiting e v).
    stores {t = record { bytes = t.bytes; records = t.records; table = t.table; kept = t.kept; space = t.space; waiting = v; room = t.room; stored = t.stored; cover = t.cover }}
    f.moved f.uncovered c.if-stored-self.false
    (joined_at g.K.Cost task s w.node c.args.m c.in_ok-cost.cost c.cost.result c.args.price rd.fit.sound.noted rd.fit.sound.there f.priced c.cost.ensures c.in_ok-cost.ensures.1 c.in_ok-cost.ensures.2)
    (record {
      bytes = at_width _ _ k row _ (fits_length task.values row (back_fits task c.args.m _ row acc rd.fit.sound.fit f.moved))
          (subst (λ z. c.write_row.new.bytes ≡ written w.rows.now (k * length (take z c.args.scratch.now)) (take z c.args.scratch.now)) c.variables-v.ensures c.write_row.ensures);
      records = ap (λ z. slice_set w.records.now z new) c.from.ensures;
      waiting = ad;
      stored = refl;
      kept = refl;
      table = refl;
      space = refl;
      room = c.put.ensures.room;
      cover = refl;
    }) in
    record {
      lent = record { accepted = refl; node = refl; capacity = refl; rows = refl; bytes = c.write_row.auto.bytes; noted = length-set _ _ _; records = refl; store = refl; queue = refl };
      counts = record { more = omega arith; store = refl; waits = omega (arith, c.in_ok-put.ensures.count.1) };
      granted = λ f rd. ready_as_many g.K.Cost task w.progress.capacity t (g.Q.Queue.entries c.put.new.self) (omega (arith, c.in_ok-put.ensures.count.1)) (ready_one g.K.Cost task w.progress.capacity acc rd (one f rd (e ∷ s.waiting) (IsPermutation-refl (e ∷ s.waiting))));
      moved = λ f o rd. (c.put.ensures.ordered o, one f rd (g.Q.Queue.entries c.put.new.self) (c.in_ok-put.ensures.entries o));
    }
