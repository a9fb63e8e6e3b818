-- What a trie means after one row more.
use Rattle.std.proofs.Common.{◌≡◌, ℕ, zero, suc, ◌+◌, ◌-◌, ◌<◌, ◌≤◌, List, [], ◌∷◌, ◌++◌, length, get_or, sym, refl, ap, ◌∙◌, inl, inr, arith}
use Rattle.std.proofs.lemmas.Bool.{cases_lt}
use Rattle.std.proofs.lemmas.List.{ext_get_or}
use Rattle.std.proofs.lemmas.List.FromFn.{map-range_with_len_more, length-map-range_with_len, get_or-map-range_with_len}
use Rattle.rows.specs.Rows.{fits_at}
use Rattle.rows.proofs.Both.{both_length}
use Rattle.trie.specs.declared.cells.Cell.{Cell}
use Rattle.trie.specs.Cells.{at, up, parent_of, depth_of, leaf_of, row_to, kept_row, rows_in, Sound}
use Rattle.trie.specs.Wells.{up_add, above}
use Rattle.trie.specs.Ways.{row_byte, length_row_to}
use Rattle.trie.proofs.Grows.{Grown, parent, leaf, note, new_parent0, new_parent}

module _ (values row : List ℕ) (cs ds : List Cell) (used count c level k : ℕ) (s : Sound values cs used count) (g : Grown values row cs ds used count c level k) where
  up_same : (x : ℕ) → x < used → (n : ℕ) → n ≤ depth_of cs x → up ds n x ≡ up cs n x
  up_same x h zero l = refl
  up_same x h (suc n) l =
      ap (λ y. parent_of ds y) (up_same x h n (omega arith)) ∙ parent values row cs ds used count c level k s g (up cs n x) (above values cs used count s x h n (omega arith)).0

  up_new : (n : ℕ) → n < k → up ds n (leaf_of ds (used + k) count) + n + 1 ≡ used + k
  up_new zero h = omega (arith, note values row cs ds used count c level k s g)
  up_new (suc n) h =
      let i = up_new n (omega arith) in
      let y = up ds n (leaf_of ds (used + k) count) in
      omega (arith, i, new_parent values row cs ds used count c level k s g y (omega (arith, i)) (omega (arith, i)))

  -- k steps up from the new row's end is the cell c
  up_to_c : up ds k (leaf_of ds (used + k) count) ≡ c
  up_to_c =
      let n : k ≡ suc (k - 1) = omega (arith, g.some) in
      let e : up ds (k - 1) (leaf_of ds (used + k) count) ≡ used = omega (arith, up_new (k - 1) (omega (arith, g.some)), g.some) in
      ap (λ y. up ds y (leaf_of ds (used + k) count)) n ∙ ap (λ y. parent_of ds y) e ∙ new_parent0 values row cs ds used count c level k s g

  new_byte_at : (v : ℕ) → v < length values → (at ds (up ds (length values - (v + 1)) (leaf_of ds (used + k) count))).byte ≡ get_or row v 0
  new_byte_at v h = elim (cases_lt v level) [
    | inl l ↦
        let m = level - (v + 1) in
        let e : length values - (v + 1) ≡ m + k = omega (arith, g.ends) in
        let d : m ≤ depth_of cs c = omega (arith, g.deepest.here) in
        let u : up ds (length values - (v + 1)) (leaf_of ds (used + k) count) ≡ up cs m c =
        up_add ds m k (length values - (v + 1)) (leaf_of ds (used + k) count) e ∙ ap (up ds m) up_to_c ∙ up_same c g.deepest.within m d in
        ap (λ y. (at ds y).byte) u ∙ g.byte (up cs m c) (above values cs used count s c g.deepest.within m d).0 ∙ g.deepest.same v l
    | inr q ↦
        let n = length values - (v + 1) in
        let i = up_new n (omega (arith, g.ends)) in
        let x = up ds n (leaf_of ds (used + k) count) in
        let e : level + (x - used) ≡ v = omega (arith, i, g.ends) in
        g.new_byte x (omega (arith, i, g.ends)) (omega (arith, i)) ∙ ap (λ z. get_or row z 0) e
  ]

  new_row : kept_row (length values) ds (used + k) count ≡ row
  new_row =
      let w = length values in
      ext_get_or 0 (kept_row (length values) ds (used + k) count) row (length_row_to w ds (leaf_of ds (used + k) count) ∙ both_length fits_at values row g.fit)
      (λ v h. let q : v < w = omega (arith, length_row_to w ds (leaf_of ds (used + k) count)) in row_byte w ds (leaf_of ds (used + k) count) v q ∙ new_byte_at v q)

  old_row : (r : ℕ) → r < count → kept_row (length values) ds (used + k) r ≡ kept_row (length values) cs used r
  old_row r h =
      let w = length values in
      ap (row_to w ds) (leaf values row cs ds used count c level k s g r h) ∙
      ext_get_or 0 (row_to w ds (leaf_of cs used r)) (row_to w cs (leaf_of cs used r)) (length_row_to w ds (leaf_of cs used r) ∙ sym (length_row_to w cs (leaf_of cs used r)))
      (λ v l.
      let q : v < w = omega (arith, length_row_to w ds (leaf_of cs used r)) in
      let n = w - (v + 1) in
      let d : n ≤ depth_of cs (leaf_of cs used r) = omega (arith, s.kept_deep r h) in
      let i = s.kept_in r h in
      row_byte w ds (leaf_of cs used r) v q ∙ ap (λ y. (at ds y).byte) (up_same (leaf_of cs used r) i n d) ∙ g.byte (up cs n (leaf_of cs used r)) (above values cs used count s (leaf_of cs used r) i n d).0 ∙ sym (row_byte w cs (leaf_of cs used r) v q))

  pub grown_rows : rows_in (length values) ds (used + k) (count + 1) ≡ rows_in (length values) cs used count ++ row ∷ []
  grown_rows =
      let w = length values in
      let same : rows_in w ds (used + k) count ≡ rows_in w cs used count =
      ext_get_or [] (rows_in w ds (used + k) count) (rows_in w cs used count) (length-map-range_with_len (kept_row (length values) ds (used + k)) 0 count ∙ sym (length-map-range_with_len (kept_row (length values) cs used) 0 count))
      (λ r l.
      let h : r < count = omega (arith, length-map-range_with_len (kept_row (length values) ds (used + k)) 0 count) in
      get_or-map-range_with_len (kept_row (length values) ds (used + k)) 0 count r r [] h (omega arith) ∙ old_row r h ∙ sym (get_or-map-range_with_len (kept_row (length values) cs used) 0 count r r [] h (omega arith))) in
      map-range_with_len_more (kept_row (length values) ds (used + k)) 0 count count (omega arith) ∙ ap (λ x. x ++ kept_row (length values) ds (used + k) count ∷ []) same ∙ ap (λ x. rows_in w cs used count ++ x ∷ []) new_row
