-- A sound trie keeps the laws of a store.
use Rattle.std.specs.Prelude.{◌≡◌, ℕ, ◌+◌, ◌-◌, ◌<◌, ◌≤◌, true, List, [], length, slice_index}
use Rattle.std.proofs.Common.{sym, ap, ◌∙◌, arith}
use Rattle.rows.specs.Rows.{fits, fits_at}
use Rattle.rows.proofs.Both.{both_from}
use Rattle.store.specs.Stores.{AllFit, space_of, Lawful}
use Rattle.store.specs.Laws.{lawful_from}
use Rattle.trie.specs.declared.cells.Cell.{Cell}
use Rattle.trie.specs.Cells.{at, up, depth_of, leaf_of, row_to, rows_in, Sound, IsSound}
use Rattle.trie.specs.Wells.{well, not_root, on_way}
use Rattle.trie.specs.Ways.{row_byte, length_row_to, kept_at, kept_count}
use Rattle.trie.specs.Twins.{distinct}

module _ (values : List ℕ) (cells : List Cell) (used count : ℕ) (s : Sound values cells used count) where
  fit_row : (r : ℕ) → r < count → fits values (row_to (length values) cells (leaf_of cells used r)) ≡ true
  fit_row r l =
      let w = length values in
      let leaf = leaf_of cells used r in
      both_from fits_at values (row_to w cells leaf) (sym (length_row_to w cells leaf))
      (λ v h.
      let y = up cells (w - (v + 1)) leaf in
      let o = on_way values cells used count s r l (w - (v + 1)) (omega arith) in
      let d : depth_of cells y - 1 ≡ v = omega (arith, o.1) in
      ap (fits_at (slice_index values v)) (row_byte w cells leaf v h)
      ∙ ap (λ x. fits_at (slice_index values x) (at cells y).byte) (sym d)
      ∙ s.fit y (not_root values cells used count s y (omega (arith, o.1))) o.0)

  all_fit : AllFit values (rows_in (length values) cells used count)
  all_fit r h =
      let l : r < count = omega (arith, kept_count values [] cells used count s) in
      ap (fits values) (kept_at values [] cells used count s r l) ∙ fit_row r l

pub trie_lawful : (values : List ℕ) (cells : List Cell) (space used count : ℕ)
    → space ≡ space_of values (length cells - 1) → count ≤ space → IsSound values cells used count
    → Lawful values (rows_in (length values) cells used count) (space_of values (length cells - 1))
trie_lawful values cells space used count m c i =
    let s = well values cells used count i in
    lawful_from values (rows_in (length values) cells used count) (length cells - 1)
    (distinct values cells used count s) (all_fit values cells used count s) (omega (arith, kept_count values [] cells used count s))
