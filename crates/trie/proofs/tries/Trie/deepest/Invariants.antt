use Rattle.std.proofs.Common.{◌≡◌, ℕ, ◌+◌, ◌-◌, ◌<◌, get_or}
use Rattle.trie.specs.Cells.{at, up, depth_of}
use Rattle.trie.proofs.tries.Trie.deepest.Given as goal

abbrev pub invariant-loop-level : goal.invariant-loop-level
invariant-loop-level l =
    (l.c < l.self.used)
    × (depth_of l.self.cells.now l.c ≡ l.level)
    × ((v : ℕ) → v < l.level → (at l.self.cells.now (up l.self.cells.now (l.level - (v + 1)) l.c)).byte ≡ get_or l.row v 0)
