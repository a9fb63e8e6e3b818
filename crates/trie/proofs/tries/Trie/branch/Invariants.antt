use Rattle.std.proofs.Common.{◌≡◌, ℕ, ◌<◌}
use Rattle.trie.specs.Cells.{at, parent_of}
use Rattle.trie.proofs.tries.Trie.branch.Given as goal

-- the branches past b have been passed
abbrev pub invariant-loop-b : goal.invariant-loop-b
invariant-loop-b l =
    (l.b < l.self.used)
    × (0 < l.b → parent_of l.self.cells.now l.b ≡ l.c)
    × ((d : ℕ) → l.b < d → d < l.self.used → parent_of l.self.cells.now d ≡ l.c → (at l.self.cells.now d).byte ≡ l.byte → ⊥)

abbrev pub decreases-loop-b : goal.decreases-loop-b
decreases-loop-b l = l.b
