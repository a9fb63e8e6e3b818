use Rattle.std.proofs.Common.{◌-◌, length}
use Rattle.trie.specs.Cells.{at}
use Rattle.trie.proofs.Fills.{Filling}
use Rattle.trie.proofs.tries.Trie.add.Given as goal

abbrev pub invariant-loop-i : goal.invariant-loop-i
invariant-loop-i l = Filling l.initial.self l.self l.row (at l.initial.self.cells.now l.c).head l.level (length l.row - l.level) l.i
