use Rattle.std.proofs.Common.{◌≡◌, true, List, length, ℕ, sym, ◌∙◌, arith, rules}
use Rattle.rows.specs.Rows.{fits, fits_at, complete, complete_at, overlaid}
use Rattle.rows.proofs.Both.{both_length}
use Rattle.rows.proofs.Pairs.{length_overlaid}
use Rattle.rows.proofs.Outcomes.{too_short}
use Rattle.rows.proofs.operators.Operator.apply.Goals as goal

level : (values x s : List ℕ) → true ≡ fits values x → true ≡ complete values s → length x ≡ length s
level values x s b d = sym (both_length fits_at values x (sym b)) ∙ both_length complete_at values s (sym d)

pub write_overlaid-requires-clause-effect : goal.write_overlaid-requires-clause-effect
write_overlaid-requires-clause-effect c = level c.args.values.now c.args.self.now.effect.now c.args.state.now c.if-not-fits-2.ensures c.if-not-is_complete.ensures

pub returns-then-out-state : goal.returns-then-out-state
returns-then-out-state c =
    let x = c.args.self.now.effect.now in
    let s = c.args.state.now in
    too_short _ _ (overlaid x s) c.args.out.now (search rules) (search rules)
    (omega (arith, length_overlaid x s (level c.args.values.now x s c.if-not-fits-2.ensures c.if-not-is_complete.ensures)))
