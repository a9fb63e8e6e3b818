use Rattle.std.proofs.Common.{◌+◌, ◌<◌, get_or, None, sym, arith}
use Rattle.std.proofs.lemmas.Bool.{both_ways}
use Rattle.rows.specs.Rows.{covers_at}
use Rattle.trie.specs.Cells.{at}
use Rattle.trie.specs.Lookups.{Looked}
use Rattle.trie.specs.Ways.{look_leaf, look_along, look_none, along_look, along_along, along_skip, along_none}
use Rattle.trie.proofs.Descents.{of}
use Rattle.trie.proofs.tries.Trie.+look.Goals as goal
use Rattle.trie.proofs.tries.Trie.+look.Goals.{then-leads+in_default, else-leads}

pub returns-then-level-self : goal.returns-then-level-self
returns-then-level-self t c = look_leaf _ _ _ _ _ (of c.args.self.now) c.args.c c.args.level c.requires c.if-level-self.true

pub loop-b-init : goal.loop-b-init
loop-b-init t c = (look_along _ _ _ _ _ (of c.args.self.now) c.args.c c.args.level c.requires c.if-level-self.false, λ g. g)

pub look-requires : goal.look-requires
look-requires t c =
    let i = c.loop-b.invariant.0 in
    (omega (arith, i.shallow, c.decreases), along_look _ _ _ _ _ (of c.args.self.now) c.loop-b.b c.args.level i (omega arith) (sym c.if-leads.ensures))

pub loop-b-preserved : goal.loop-b-preserved
loop-b-preserved t c =
    let s = c.args.self.now in
    let b = c.loop-b.b in
    let i = c.loop-b.invariant in
    let p : 0 < b = omega arith in
    let here : Looked s.values.now c.args.row.now s.cells.now s.used s.count b (c.args.level + 1) None =
    elim c.if-leads.branch [
      | then-leads+in_default w ↦ w.in_default.ensures
      | else-leads w ↦ along_skip _ _ _ _ _ (of s) b c.args.level i.0 (both_ways (covers_at (at s.cells.now b).byte (get_or c.args.row.now c.args.level 0)) (sym w.if-leads.ensures))
    ] in
    (along_along _ _ _ _ _ (of s) b c.args.level i.0 p, λ rest. i.1 (along_none _ _ _ _ _ (of s) b c.args.level i.0 p here rest))

pub returns : goal.returns
returns t c =
    look_none _ _ _ _ _ (of c.args.self.now) c.args.c c.args.level c.requires c.if-level-self.false
    (c.loop-b.invariant.1 (λ k h p l. absurd (omega arith)))
