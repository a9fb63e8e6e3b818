use Rattle.std.proofs.Common.{◌<◌, sym, refl, arith}
use Rattle.rows.specs.Rows.{fits_at}
use Rattle.rows.proofs.Both.{both_length}
use Rattle.trie.specs.Ways.{kept_count}
use Rattle.trie.specs.Twins.{fresh_row, known_row}
use Rattle.trie.proofs.Descents.{of}
use Rattle.trie.proofs.Fills.{width, shallow}
use Rattle.trie.proofs.tries.TrieStore.keep.Goals as goal

pub deepest-c-requires-clause-wide : goal.deepest-c-requires-clause-wide
deepest-c-requires-clause-wide c = sym (both_length fits_at c.args.self.now.values.now c.args.row.now (sym c.if-not-fits.ensures))

pub returns-then-level-row-clause-answer : goal.returns-then-level-row-clause-answer
returns-then-level-row-clause-answer c =
    let a = c.args.self.now in
    let f = sym c.if-not-fits.ensures in
    let p : 0 < a.space = omega (arith, c.if-self-eq0.false) in
    let e = sym (both_length fits_at a.values.now c.args.row.now f) in
    (refl, (f, known_row a.values.now a.cells.now a.used a.count (of a) c.args.row.now c.deepest-c.result.0 c.deepest-c.result.1 c.deepest-c.ensures c.if-level-row.true e (width a p).0))

pub returns-then-self-clause-answer : goal.returns-then-self-clause-answer
returns-then-self-clause-answer c =
    let a = c.args.self.now in
    let row = c.args.row.now in
    let f = sym c.if-not-fits.ensures in
    let l = shallow a row c.deepest-c.result.0 c.deepest-c.result.1 f c.deepest-c.ensures c.if-level-row.false in (
      refl,
      (
        f,
        fresh_row a.values.now a.cells.now a.used a.count (of a) row c.deepest-c.result.0 c.deepest-c.result.1 c.deepest-c.ensures l,
        omega (arith, a.measured, c.if-self.true, kept_count a.values.now row a.cells.now a.used a.count (of a)),
      ),
    )

pub add-requires-clause-fresh : goal.add-requires-clause-fresh
add-requires-clause-fresh c =
    shallow c.args.self.now c.args.row.now c.deepest-c.result.0 c.deepest-c.result.1 (sym c.if-not-fits.ensures) c.deepest-c.ensures c.if-level-row.false

pub returns-clause-answer : goal.returns-clause-answer
returns-clause-answer c =
    let a = c.args.self.now in
    let row = c.args.row.now in
    let f = sym c.if-not-fits.ensures in
    let l = shallow a row c.deepest-c.result.0 c.deepest-c.result.1 f c.deepest-c.ensures c.if-level-row.false in (
      f,
      fresh_row a.values.now a.cells.now a.used a.count (of a) row c.deepest-c.result.0 c.deepest-c.result.1 c.deepest-c.ensures l,
      omega (arith, a.measured, c.if-self.false, kept_count a.values.now row a.cells.now a.used a.count (of a)),
      c.add.ensures.added,
    )
