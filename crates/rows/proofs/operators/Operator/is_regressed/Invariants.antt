use Rattle.std.proofs.Common.{◌≡◌, ◌&&◌, length, drop}
use Rattle.rows.specs.Rows.{hits, clear}
use Rattle.rows.proofs.Regressing.{left}
use Rattle.rows.proofs.operators.Operator.is_regressed.Given as goal

abbrev pub invariant-loop-b : goal.invariant-loop-b
invariant-loop-b l =
    let n = length l.yielded in
    (hits l.row l.self.effect.now && clear l.row l.self.condition.now l.self.effect.now)
    ≡ left l.hit (drop n l.row) (drop n l.self.condition.now) (drop n l.self.effect.now)
