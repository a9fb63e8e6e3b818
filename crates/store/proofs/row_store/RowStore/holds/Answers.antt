use Rattle.std.proofs.Common.{◌≡◌, ℕ, ◌<◌, true, false, rules, length, arith, nat_eq, sym}
use Rattle.std.proofs.iter.runs.Sources.{ranges, range_runs}
use Rattle.std.specs.Cmp.Lexicographic.{pointwise, other_text}
use Rattle.store.specs.Blocks.{row_at}
use Rattle.store.proofs.Searches.{none_of, one_of, told}
use Rattle.store.proofs.row_store.RowStore.holds.Goals as goal

pub returns : goal.returns
returns c =
    let s = c.args.self.now in
    let row = c.args.row.now in
    let at = row_at (length s.values.now) s.bytes.now in
    let some : c.any.result ≡ true → (r : ℕ) × (r < s.count) × (at r ≡ row) = λ e. search (rules, ranges) in
    let none : c.any.result ≡ false → (r : ℕ) → r < s.count → at r ≡ row → ⊥ =
    λ e r h.
    let p = c.any.ensures.runs.0 in
    let i = (range_runs p p.seen).3 r in
    let t : pointwise nat_eq (at r) row ≡ false = grind (arith, ranges) in
    other_text (at r) row (sym t) in
    told c.any.result
    (λ e. let k = some e in let o = one_of (λ x. x ≡ row) (length s.values.now) s.count s.bytes.now k.0 k.1 k.2 in (k.0, o.0, o.1))
    (λ e x. none_of (λ y. y ≡ row) (length s.values.now) s.count s.bytes.now (none e) x.0 x.1 x.2)
