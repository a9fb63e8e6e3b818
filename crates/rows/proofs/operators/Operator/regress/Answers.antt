use Rattle.std.proofs.Common.{◌≡◌, true, List, length, ℕ, sym, ◌∙◌, arith, rules}
use Rattle.rows.specs.Rows.{fits, fits_at, backed}
use Rattle.rows.proofs.Both.{both_length}
use Rattle.rows.proofs.Pairs.{length_backed}
use Rattle.rows.proofs.Outcomes.{too_short}
use Rattle.rows.proofs.operators.Operator.regress.Goals as goal

level : (values y g : List ℕ) → true ≡ fits values y → true ≡ fits values g → length y ≡ length g
level values y g a d = sym (both_length fits_at values y (sym a)) ∙ both_length fits_at values g (sym d)

pub returns-then-out-row : goal.returns-then-out-row
returns-then-out-row c =
    let g = c.args.row.now in
    let y = c.args.self.now.condition.now in
    let x = c.args.self.now.effect.now in
    too_short _ _ (backed g y x) c.args.out.now (search rules) (search rules)
    (omega (arith, length_backed g y x, level c.args.values.now y g c.if-not-fits.ensures c.if-not-fits-3.ensures, level c.args.values.now x g c.if-not-fits-2.ensures c.if-not-fits-3.ensures))

pub is_regressed-requires : goal.is_regressed-requires
is_regressed-requires c = omega (arith, level c.args.values.now c.args.self.now.condition.now c.args.row.now c.if-not-fits.ensures c.if-not-fits-3.ensures)
