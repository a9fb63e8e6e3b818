-- Two cells to which the same bytes lead are one.
use Rattle.std.specs.Prelude.{◌≡◌, ℕ, zero, suc, ◌+◌, ◌-◌, ◌<◌, ◌≤◌, List, [], length, slice_index, slice_index_or}
use Rattle.std.proofs.Common.{sym, ap, subst, ◌∙◌, inl, inr, arith}
use Rattle.std.proofs.lemmas.Bool.{cases_lt}
use Rattle.std.proofs.lemmas.List.{ext_get_or}
use Rattle.store.specs.Stores.{Distinct, Holds}
use Rattle.trie.specs.declared.cells.Cell.{Cell}
use Rattle.trie.specs.Cells.{at, up, parent_of, depth_of, leaf_of, row_to, kept_row, rows_in, Sound}
use Rattle.trie.specs.Chains.{upward, deeper}
use Rattle.trie.specs.Lookups.{Deepest}
use Rattle.trie.specs.Wells.{up_first, up_add, not_root, is_root, on_way}
use Rattle.trie.specs.Ways.{row_byte, length_row_to, kept_at, kept_count}

module _ (values : List ℕ) (cells : List Cell) (used count : ℕ) (s : Sound values cells used count) where
  pub twins : (m x y : ℕ) → x < used → y < used → depth_of cells x ≡ m → depth_of cells y ≡ m
      → ((v : ℕ) → v < m → (at cells (up cells (m - (v + 1)) x)).byte ≡ (at cells (up cells (m - (v + 1)) y)).byte)
      → x ≡ y
  twins zero x y a b e f g = is_root values cells used count s x a e ∙ sym (is_root values cells used count s y b f)
  twins (suc m) x y a b e f g =
      let p : 0 < x = not_root values cells used count s x (omega arith) in
      let q : 0 < y = not_root values cells used count s y (omega arith) in
      let px = parent_of cells x in
      let py = parent_of cells y in
      let same : px ≡ py =
      twins m px py (omega (arith, upward cells used s.next_in x p a)) (omega (arith, upward cells used s.next_in y q b)) (omega (arith, deeper cells used s.next_in x p a)) (omega (arith, deeper cells used s.next_in y q b))
      (λ v h.
      let n : suc m - (v + 1) ≡ suc (m - (v + 1)) = omega arith in
      let ux = ap (λ z. (at cells z).byte) (sym (up_first cells (m - (v + 1)) x) ∙ ap (λ z. up cells z x) (sym n)) in
      let uy = ap (λ z. (at cells z).byte) (ap (λ z. up cells z y) n ∙ up_first cells (m - (v + 1)) y) in
      ux ∙ g v (omega arith) ∙ uy) in
      let z : suc m - (m + 1) ≡ 0 = omega arith in
      let by : (at cells x).byte ≡ (at cells y).byte =
      ap (λ n. (at cells (up cells n x)).byte) (sym z) ∙ g m (omega arith) ∙ ap (λ n. (at cells (up cells n y)).byte) z in
      elim (cases_lt x y) [
        | inl l ↦ absurd (s.apart y x p l b same by)
        | inr h ↦ elim (cases_lt y x) [
          | inl l ↦ absurd (s.apart x y q l a (sym same) (sym by))
          | inr h' ↦ omega arith
        ]
      ]

  -- the byte at v of a kept row, on the way up from its cell in the level m
  pub byte_from : (r m v : ℕ) → m ≤ length values → v < m
      → (at cells (up cells (m - (v + 1)) (up cells (length values - m) (leaf_of cells used r)))).byte ≡ slice_index (kept_row (length values) cells used r) v
  byte_from r m v h l =
      let e : length values - (v + 1) ≡ (m - (v + 1)) + (length values - m) = omega arith in
      sym (row_byte (length values) cells (leaf_of cells used r) v (omega arith) ∙ ap (λ z. (at cells z).byte) (up_add cells (m - (v + 1)) (length values - m) (length values - (v + 1)) (leaf_of cells used r) e))

  pub distinct : Distinct (rows_in (length values) cells used count)
  distinct i j l h e =
      let hj : j < count = omega (arith, kept_count values [] cells used count s) in
      let hi : i < count = omega arith in
      let w = length values in
      let r : kept_row (length values) cells used i ≡ kept_row (length values) cells used j = sym (kept_at values [] cells used count s i hi) ∙ e ∙ kept_at values [] cells used count s j hj in
      let t : leaf_of cells used i ≡ leaf_of cells used j =
      twins w (leaf_of cells used i) (leaf_of cells used j) (s.kept_in i hi) (s.kept_in j hj) (s.kept_deep i hi) (s.kept_deep j hj)
      (λ v q. sym (row_byte w cells (leaf_of cells used i) v q) ∙ ap (λ x. slice_index x v) r ∙ row_byte w cells (leaf_of cells used j) v q) in
      omega (arith, ap (λ x. (at cells x).rank) t, s.kept_rank i hi, s.kept_rank j hj)

  -- where the way ends before the last level, the row is not kept
  pub fresh_row : (row : List ℕ) (c l : ℕ) → Deepest values row cells used c l → l < length values → Holds (rows_in (length values) cells used count) row → ⊥
  fresh_row row c l d h (r, b, e) =
      let w = length values in
      let hr : r < count = omega (arith, kept_count values [] cells used count s) in
      let k : kept_row (length values) cells used r ≡ row = sym (kept_at values [] cells used count s r hr) ∙ e in
      let o = on_way values cells used count s r hr (w - l) (omega arith) in
      let x = up cells (w - l) (leaf_of cells used r) in
      let t : x ≡ c =
      twins l x c o.0 d.within (omega (arith, o.1)) d.here
      (λ v q. byte_from r l v (omega arith) q ∙ ap (λ z. slice_index z v) k ∙ sym (d.same v q)) in
      let o' = on_way values cells used count s r hr (w - (l + 1)) (omega arith) in
      let y = up cells (w - (l + 1)) (leaf_of cells used r) in
      let n : suc (w - (l + 1)) ≡ w - l = omega arith in
      d.fresh h y (not_root values cells used count s y (omega (arith, o'.1))) o'.0
      (ap (λ z. up cells z (leaf_of cells used r)) n ∙ t)
      (sym (row_byte w cells (leaf_of cells used r) l h) ∙ ap (λ z. slice_index z l) k)

  -- where it comes to the last level, it is
  pub known_row : (row : List ℕ) (c l : ℕ) → Deepest values row cells used c l → l ≡ length row → length row ≡ length values → 0 < length values → Holds (rows_in (length values) cells used count) row
  known_row row c l d e f p =
      let w = length values in
      let lw : l ≡ w = e ∙ f in
      let z : 0 < c = not_root values cells used count s c (omega (arith, d.here)) in
      let lv : depth_of cells c ≡ w = d.here ∙ lw in
      let r = (at cells c).rank in
      let hr : r < count = s.ranked c z d.within lv in
      let same : (v : ℕ) → v < w → (at cells (up cells (w - (v + 1)) c)).byte ≡ slice_index_or row v 0 = subst (λ n. (v : ℕ) → v < n → (at cells (up cells (n - (v + 1)) c)).byte ≡ slice_index row v) lw d.same in
      let k : kept_row (length values) cells used r ≡ row =
      ap (row_to w cells) (s.noted c z d.within lv) ∙ ext_get_or 0 (row_to w cells c) row (length_row_to w cells c ∙ sym f)
      (λ v h. let q : v < w = omega (arith, length_row_to w cells c) in row_byte w cells c v q ∙ same v q) in
      (r, omega (arith, kept_count values [] cells used count s, hr), kept_at values [] cells used count s r hr ∙ k)
