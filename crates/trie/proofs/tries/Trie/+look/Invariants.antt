use Rattle.std.proofs.Common.{◌-◌, length, None}
use Rattle.trie.specs.Cells.{at}
use Rattle.trie.specs.Lookups.{Goes, Gone}
use Rattle.trie.proofs.tries.Trie.+look.Given as goal

abbrev pub decreases-look : goal.decreases-look
decreases-look l = length l.self.now.values.now - l.level

-- no branch before b leads to a covering row
abbrev pub invariant-loop-b : goal.invariant-loop-b
invariant-loop-b l =
    Goes l.self.values.now l.row l.self.cells.now l.self.used l.self.count l.b l.level
    × (Gone l.self.values.now l.row l.self.cells.now l.self.used l.self.count l.b l.level None
    → Gone l.self.values.now l.row l.self.cells.now l.self.used l.self.count (at l.self.cells.now l.c).head l.level None)

abbrev pub decreases-loop-b : goal.decreases-loop-b
decreases-loop-b l = l.b
