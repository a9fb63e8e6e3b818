use Rattle.std.proofs.Common.{[], sym}
use Rattle.trie.specs.Ways.{kept_count}
use Rattle.trie.proofs.Descents.{of}
use Rattle.trie.proofs.tries.TrieStore.count.Goals as goal

pub returns : goal.returns
returns c =
    let s = c.args.self.now in
    sym (kept_count s.values.now [] s.cells.now s.used s.count (of s))
