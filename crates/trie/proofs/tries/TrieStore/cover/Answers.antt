use Rattle.std.proofs.Common.{◌<◌, sym, arith}
use Rattle.rows.specs.Rows.{fits_at}
use Rattle.rows.proofs.Both.{both_length}
use Rattle.trie.specs.Ways.{look_root, looked_root}
use Rattle.trie.proofs.Descents.{of}
use Rattle.trie.proofs.tries.TrieStore.cover.Goals as goal

pub look-requires : goal.look-requires
look-requires c =
    let s = c.args.self.now in
    let p : 0 < s.count = omega arith in
    look_root s.values.now c.args.row.now s.cells.now s.used s.count (of s)
    (sym (both_length fits_at s.values.now c.args.row.now (sym c.if-not-fits.ensures))) p

pub returns : goal.returns
returns c =
    let s = c.args.self.now in
    (sym c.if-not-fits.ensures, looked_root s.values.now c.args.row.now s.cells.now s.used s.count (of s) c.look.result c.look.ensures)
