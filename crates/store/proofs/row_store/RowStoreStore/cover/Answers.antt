use Rattle.std.proofs.Common.{◌≡◌, ℕ, ◌<◌, true, false, Some, None, rules, ◌∙◌, length, arith, sym}
use Rattle.std.proofs.iter.runs.Sources.{ranges, range_runs}
use Rattle.rows.specs.Rows.{covers}
use Rattle.store.specs.Blocks.{row_at}
use Rattle.store.proofs.Searches.{cover_found}
use Rattle.store.proofs.row_store.RowStoreStore.cover.Goals as goal

pub returns : goal.returns
returns c =
    let s = c.args.self.now in
    let row = c.args.row.now in
    let at = row_at (length s.values.now) s.bytes.now in
    let none : c.find.result ≡ None → (r : ℕ) → r < s.count → covers (at r) row ≡ false =
    λ e r h. let p = c.find.ensures.runs.0 in let i = (range_runs p p.seen).3 r in grind (arith, ranges) in
    let below : (r : ℕ) → c.find.result ≡ Some r → r < s.count = λ r e. grind (arith, ranges) in
    let over : (r : ℕ) → c.find.result ≡ Some r → covers (at r) row ≡ true = λ r e. grind (arith, ranges) in
    let same : c.map.result ≡ c.find.result = search rules in
    (sym c.if-not-fits.ensures, cover_found (length s.values.now) s.count s.bytes.now row c.map.result (λ e. none (sym same ∙ e)) (λ r e. (below r (sym same ∙ e), over r (sym same ∙ e))))
