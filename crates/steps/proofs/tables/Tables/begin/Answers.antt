use Rattle.std.proofs.Common.{length, slice_set, refl, ap, subst, arith}
use Rattle.queue.specs.Orders.{Added}
use Rattle.task.specs.Answers.{held}
use Rattle.task.proofs.Judgings.{counted}
use Rattle.steps.proofs.Beginnings.{one_row, at_front}
use Rattle.steps.proofs.tables.Tables.begin.Goals as goal

pub write_row-requires-clause-within : goal.write_row-requires-clause-within
write_row-requires-clause-within g c =
    let a = c.args.accepted.now in
    omega (arith, (counted (held a.task) a.counted).goal, one_row (length a.task.values.now) (length c.args.self.now.rows.now) (omega (arith, c.capacity-c.ensures, c.if-c-eq0.false)))

pub returns : goal.returns
returns g c =
    let new = c.if-not-is_new.ensures in
    let o = g.Q.Queue.empty c.args.self.now.queue new.waiting in
    let root = c.root-root.ensures in
    record {
      new = record { kept = new.kept; waiting = new.waiting; table = new.table };
      some = omega (arith, c.if-c-eq0.false);
      capacity = c.capacity-c.ensures;
      ordered = c.put.ensures.ordered o;
      began = record {
        cost = c.root-root.result.cost;
        nothing = root.nothing;
        joins = root.joins;
        bytes = at_front c.write_row.new.bytes c.args.self.now.rows.now c.args.accepted.now.task.goal.now c.write_row.ensures;
        records = ap (slice_set c.args.self.now.records.now 0) root.is;
        waiting = subst (λ z. Added z (record { cost = c.root-root.result.cost; number = 0 }) (g.Q.Queue.entries c.put.new.self)) new.waiting (c.in_ok-put.ensures.entries o);
        kept = refl;
        table = refl;
        space = refl;
        room = c.put.ensures.room;
        stored = refl;
        cover = refl;
      };
    }
