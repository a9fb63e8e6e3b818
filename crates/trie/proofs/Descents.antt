-- The way down along a row's own bytes.
use Rattle.std.proofs.Common.{◌≡◌, ℕ, suc, ◌+◌, ◌-◌, ◌*◌, ◌<◌, ◌≤◌, List, length, get_or, sym, ap, ◌∙◌, subst, inl, inr, mul-le-mul_right, arith}
use Rattle.std.proofs.lemmas.Bool.{cases_eq}
use Rattle.store.specs.Stores.{space_of}
use Rattle.store.specs.Blocks.{inside}
use Rattle.trie.specs.declared.cells.Cell.{Cell}
use Rattle.trie.specs.declared.tries.Trie.{Trie}
use Rattle.trie.specs.Cells.{at, up, parent_of, depth_of, Sound}
use Rattle.trie.specs.Chains.{deeper}
use Rattle.trie.specs.Wells.{well, up_first}
use Rattle.trie.proofs.Starts.{space_none}

pub of : (s : Trie) → Sound s.values.now s.cells.now s.used s.count
of s = well s.values.now s.cells.now s.used s.count s.sound

-- n rows within the capacity lie inside the cells
pub space_for : (values : List ℕ) (size space n : ℕ) → space ≡ space_of values (size - 1) → 0 < space → n ≤ space → 1 + n * length values ≤ size
space_for values size space n m p l =
    let z : (size - 1 ≡ 0) → ⊥ = λ e. omega (arith, space_none values (size - 1) e) in
    let i : (space - 1 + 1) * length values ≤ size - 1 = inside values (size - 1) space (space - 1) m (omega arith) in
    let k : n * length values ≤ (space - 1 + 1) * length values = mul-le-mul_right (length values) (let q : n ≤ space - 1 + 1 = omega arith in q) in
    elim (cases_eq (size - 1) 0) [ inl e ↦ absurd (z e) | inr ne ↦ omega arith ]

pub reach : (s : Trie) → 0 < s.space → s.used ≤ length s.cells.now
reach s p = omega (arith, space_for s.values.now (length s.cells.now) s.space s.count s.measured p s.inside, (of s).few)

module _ (values : List ℕ) (cells : List Cell) (used count : ℕ) (s : Sound values cells used count) where
  -- past the head there is no branch
  pub past_head : (c d : ℕ) → (at cells c).head < d → d < used → parent_of cells d ≡ c → ⊥
  past_head c d l h e = omega (arith, l, subst (λ x. d ≤ (at cells x).head) e (s.first d (omega arith) h))

  -- between a branch and the next one there is none
  pub past_next : (c b d : ℕ) → 0 < b → b < used → parent_of cells b ≡ c → (at cells b).next < d → d < b → parent_of cells d ≡ c → ⊥
  past_next c b d p h e l m f = omega (arith, l, s.then b d (omega arith) m h (f ∙ sym e))

  pub one_deeper : (row : List ℕ) (c b level : ℕ) → c < used → depth_of cells c ≡ level
      → ((v : ℕ) → v < level → (at cells (up cells (level - (v + 1)) c)).byte ≡ get_or row v 0)
      → 0 < b → b < used → parent_of cells b ≡ c → (at cells b).byte ≡ get_or row level 0
      → (depth_of cells b ≡ level + 1) × ((v : ℕ) → v < level + 1 → (at cells (up cells (level + 1 - (v + 1)) b)).byte ≡ get_or row v 0)
  one_deeper row c b level h e same p i pe be = (
    deeper cells used s.next_in b p i ∙ ap (λ x. depth_of cells x + 1) pe ∙ ap (λ x. x + 1) e,
    λ v l. elim (cases_eq v level) [
      | inl q ↦
          let z : level + 1 - (v + 1) ≡ 0 = omega arith in
          ap (λ x. (at cells (up cells x b)).byte) z ∙ be ∙ ap (λ x. get_or row x 0) (sym q)
      | inr ne ↦
          let n : level + 1 - (v + 1) ≡ suc (level - (v + 1)) = omega arith in
          ap (λ x. (at cells x).byte) (ap (λ x. up cells x b) n ∙ up_first cells (level - (v + 1)) b ∙ ap (up cells (level - (v + 1))) pe) ∙ same v (omega arith)
    ],
  )
