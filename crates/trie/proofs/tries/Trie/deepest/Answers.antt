use Rattle.std.proofs.Common.{arith}
use Rattle.trie.specs.Chains.{root_depth}
use Rattle.trie.proofs.Descents.{of, one_deeper}
use Rattle.trie.proofs.tries.Trie.deepest.Goals as goal

pub loop-level-init : goal.loop-level-init
loop-level-init c =
    let s = c.args.self.now in
    (omega (arith, (of s).many), root_depth s.cells.now s.used (of s).next_in, λ v h. absurd (omega arith))

pub loop-level-preserved : goal.loop-level-preserved
loop-level-preserved c =
    let s = c.args.self.now in
    let i = c.loop-level.invariant in
    let f = c.in_Some-b.ensures in
    let d = one_deeper _ _ _ _ (of s) c.args.row.now c.loop-level.c c.in_Some-b.b c.loop-level.level i.0 i.1 i.2 f.0 f.1 f.2 f.3 in
    (f.1, d.0, d.1)
