use Rattle.std.proofs.Common.{◌<◌, sym, ap, ◌∙◌, inl, inr, arith}
use Rattle.std.proofs.lemmas.Bool.{cases_lt, cases_eq}
use Rattle.trie.specs.Cells.{at}
use Rattle.trie.specs.Chains.{parent_next}
use Rattle.trie.specs.Wells.{head_within}
use Rattle.trie.proofs.Descents.{of, reach, past_head, past_next}
use Rattle.trie.proofs.tries.Trie.branch.Goals as goal

pub loop-b-init : goal.loop-b-init
loop-b-init c =
    let s = c.args.self.now in (
      head_within _ _ _ _ (of s) c.args.c c.requires.within,
      λ p. (of s).head_up c.args.c c.requires.within p,
      λ d l h e b. past_head _ _ _ _ (of s) c.args.c d l h e,
    )

pub bounds-self-b : goal.bounds-self-b
bounds-self-b c = omega (arith, reach c.args.self.now c.requires.some, c.loop-b.invariant.0)

pub loop-b-smaller : goal.loop-b-smaller
loop-b-smaller c =
    let p : 0 < c.loop-b.b = omega arith in
    omega (arith, (of c.args.self.now).next_in c.loop-b.b p c.loop-b.invariant.0)

pub loop-b-preserved : goal.loop-b-preserved
loop-b-preserved c =
    let s = c.args.self.now in
    let b = c.loop-b.b in
    let i = c.loop-b.invariant in
    let p : 0 < b = omega arith in (
      omega (arith, (of s).next_in b p i.0, i.0),
      λ q. parent_next s.cells.now s.used (of s).next_in b p i.0 q ∙ i.1 p,
      λ d l h e y. elim (cases_lt b d) [
        | inl g ↦ i.2 d g h e y
        | inr g ↦ elim (cases_eq d b) [
          | inl q ↦ c.if-cell-byte.false (ap (λ x. (at s.cells.now x).byte) (sym q) ∙ y)
          | inr ne ↦ past_next _ _ _ _ (of s) c.args.c b d p i.0 (i.1 p) l (omega arith) e
        ]
      ],
    )
