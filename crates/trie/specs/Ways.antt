-- The steps of the two lookups.
use Rattle.std.specs.Prelude.{◌≡◌, ℕ, suc, ◌+◌, ◌-◌, ◌*◌, ◌<◌, ◌≤◌, true, List, [], length, get_or, Some, None, Option, ◌≢◌, slice_index, slice_index_or, refl}
use Rattle.std.proofs.Common.{sym, ap, subst, ◌∙◌, inl, inr, arith, add-mul, one-mul}
use Rattle.std.proofs.lemmas.Bool.{cases_eq}
use Rattle.std.proofs.lemmas.List.FromFn.{get_or-map-range_with_len, length-map-range_with_len}
use Rattle.rows.specs.Rows.{covers, covers_at}
use Rattle.rows.proofs.Both.{both_at, both_from}
use Rattle.store.specs.Stores.{CoverFound}
use Rattle.trie.specs.declared.cells.Cell.{Cell}
use Rattle.trie.specs.Cells.{at, up, parent_of, depth_of, leaf_of, row_to, kept_row, rows_in, Sound}
use Rattle.trie.specs.Chains.{deeper, parent_next, root_depth}
use Rattle.trie.specs.Lookups.{Led, Looks, Goes, Looked, Gone}
use Rattle.trie.specs.Wells.{up_first, head_within, some_wide, not_root, on_way, from_root}

pub falls_deeper : (w level used b : ℕ) → level < w → (w - (level + 1)) * (used + 2) + (used + 1) < (w - level) * (used + 2) + b
falls_deeper w level used b h =
    let e : w - level ≡ (w - (level + 1)) + 1 = omega arith in
    let m : (w - level) * (used + 2) ≡ (w - (level + 1)) * (used + 2) + (used + 2) = ap (λ x. x * (used + 2)) e ∙ add-mul (w - (level + 1)) 1 (used + 2) ∙ ap (λ x. (w - (level + 1)) * (used + 2) + x) (one-mul (used + 2)) in
    omega arith

pub row_byte : (width : ℕ) (cells : List Cell) (c v : ℕ) → v < width → slice_index (row_to width cells c) v ≡ (at cells (up cells (width - (v + 1)) c)).byte
row_byte width cells c v h = get_or-map-range_with_len (λ x. (at cells (up cells (width - (x + 1)) c)).byte) 0 width v v 0 h (omega arith)

pub length_row_to : (width : ℕ) (cells : List Cell) (c : ℕ) → length (row_to width cells c) ≡ width
length_row_to width cells c = length-map-range_with_len (λ v. (at cells (up cells (width - (v + 1)) c)).byte) 0 width

module _ (values row : List ℕ) (cells : List Cell) (used count : ℕ) (s : Sound values cells used count) where
  pub look_leaf : (c level : ℕ) → Looks values row cells used count c level → length values ≤ level
      → ((at cells c).rank < count) × (covers (kept_row (length values) cells used (at cells c).rank) row ≡ true)
  look_leaf c level q g =
      let w = length values in
      let o : 0 < w = some_wide values cells used count s q.some in
      let p : 0 < c = not_root values cells used count s c (omega (arith, q.here)) in
      let e : level ≡ w = omega (arith, q.here, s.deep c p q.within) in
      let lv : depth_of cells c ≡ w = q.here ∙ e in
      let led : Led cells row w w c = subst (λ n. Led cells row n n c) e q.led in
      let n : kept_row w cells used (at cells c).rank ≡ row_to w cells c = ap (row_to w cells) (s.noted c p q.within lv) in
      let v : covers (row_to w cells c) row ≡ true =
      both_from covers_at (row_to w cells c) row (length_row_to w cells c ∙ sym q.wide)
      (λ v h. let l : v < w = omega (arith, length_row_to w cells c) in ap (λ x. covers_at x (slice_index row v)) (row_byte w cells c v l) ∙ led v l) in
      (s.ranked c p q.within lv, ap (λ x. covers x row) n ∙ v)

  -- the way to a branch goes by its parent
  by_parent : (level v b c : ℕ) → v < level → parent_of cells b ≡ c → up cells (level + 1 - (v + 1)) b ≡ up cells (level - (v + 1)) c
  by_parent level v b c h e =
      let n : level + 1 - (v + 1) ≡ suc (level - (v + 1)) = omega arith in
      ap (λ x. up cells x b) n ∙ up_first cells (level - (v + 1)) b ∙ ap (up cells (level - (v + 1))) e

  pub look_along : (c level : ℕ) → Looks values row cells used count c level → level < length values → Goes values row cells used count (at cells c).head level
  look_along c level q l =
      let b = (at cells c).head in
      let i : b < used = head_within values cells used count s c q.within in
      record {
        wide = q.wide;
        some = q.some;
        within = i;
        shallow = l;
        here = λ p. deeper cells used s.next_in b p i ∙ ap (λ x. depth_of cells x + 1) (s.head_up c q.within p) ∙ ap (λ x. x + 1) q.here;
        led = λ p v h. subst (λ x. covers_at (at cells x).byte (slice_index row v) ≡ true) (sym (by_parent level v b c h (s.head_up c q.within p))) (q.led v h);
      }

  pub look_none : (c level : ℕ) → Looks values row cells used count c level → level < length values
      → Gone values row cells used count (at cells c).head level None → Looked values row cells used count c level None
  look_none c level q l none k h e cov =
      let d = up cells (length values - (level + 1)) (leaf_of cells used k) in
      let o = on_way values cells used count s k h (length values - (level + 1)) (omega arith) in
      let p : 0 < d = not_root values cells used count s d (omega (arith, o.1)) in
      let n : suc (length values - (level + 1)) ≡ length values - level = omega arith in
      let pc : parent_of cells d ≡ c = ap (λ x. up cells x (leaf_of cells used k)) n ∙ e in
      let f : d ≤ (at cells c).head = subst (λ x. d ≤ (at cells x).head) pc (s.first d p o.0) in
      none k h p f (pc ∙ sym (s.head_up c q.within (omega arith))) cov

  pub along_look : (b level : ℕ) → Goes values row cells used count b level → 0 < b → covers_at (at cells b).byte (slice_index row level) ≡ true → Looks values row cells used count b (level + 1)
  along_look b level q p lead = record {
    wide = q.wide;
    some = q.some;
    within = q.within;
    here = q.here p;
    led = λ v h. elim (cases_eq v level) [
      | inl e ↦
          let z : level + 1 - (v + 1) ≡ 0 = omega arith in
          subst (λ x. covers_at (at cells (up cells x b)).byte (slice_index row v) ≡ true) (sym z) (subst (λ x. covers_at (at cells b).byte (slice_index row x) ≡ true) (sym e) lead)
      | inr ne ↦ q.led p v (omega arith)
    ];
  }

  pub along_along : (b level : ℕ) → Goes values row cells used count b level → 0 < b → Goes values row cells used count (at cells b).next level
  along_along b level q p = record {
    wide = q.wide;
    some = q.some;
    within = omega (arith, s.next_in b p q.within, q.within);
    shallow = q.shallow;
    here = λ z.
        let i : (at cells b).next < used = omega (arith, s.next_in b p q.within, q.within) in
        deeper cells used s.next_in (at cells b).next z i ∙ ap (λ x. depth_of cells x + 1) (parent_next cells used s.next_in b p q.within z) ∙ sym (deeper cells used s.next_in b p q.within) ∙ q.here p;
    led = λ z v h.
        subst (λ x. covers_at (at cells x).byte (slice_index row v) ≡ true)
        (by_parent level v b (parent_of cells b) h refl ∙ sym (by_parent level v (at cells b).next (parent_of cells b) h (parent_next cells used s.next_in b p q.within z)))
        (q.led p v h);
  }

  pub along_skip : (b level : ℕ) → Goes values row cells used count b level → (covers_at (at cells b).byte (slice_index row level) ≢ true)
      → Looked values row cells used count b (level + 1) None
  along_skip b level q n k h e cov =
      let w = length values in
      let kept = kept_row w cells used k in
      let r : get_or kept level 0 ≡ (at cells b).byte = row_byte w cells (leaf_of cells used k) level q.shallow ∙ ap (λ x. (at cells x).byte) e in
      n (ap (λ x. covers_at x (slice_index row level)) (sym r) ∙ both_at covers_at kept row cov level (omega (arith, length_row_to w cells (leaf_of cells used k), q.shallow)))

  pub along_none : (b level : ℕ) → Goes values row cells used count b level → 0 < b → Looked values row cells used count b (level + 1) None
      → Gone values row cells used count (at cells b).next level None → Gone values row cells used count b level None
  along_none b level q p here rest k h z le pe cov =
      let d = up cells (length values - (level + 1)) (leaf_of cells used k) in
      elim (cases_eq d b) [
        | inl e ↦ here k h e cov
        | inr ne ↦
            let lt : d < b = omega arith in
            let f : d ≤ (at cells b).next = s.then b d z lt q.within pe in
            rest k h z f (pe ∙ sym (parent_next cells used s.next_in b p q.within (omega arith))) cov
      ]

  pub gone_step : (b level : ℕ) → Goes values row cells used count b level → 0 < b → Looked values row cells used count b (level + 1) None
      → (o : Option ℕ) → Gone values row cells used count (at cells b).next level o → Gone values row cells used count b level o
  gone_step b level q p here (Some k) g = g
  gone_step b level q p here None g = along_none b level q p here g

  pub looked_step : (c level : ℕ) → Looks values row cells used count c level → level < length values
      → (o : Option ℕ) → Gone values row cells used count (at cells c).head level o → Looked values row cells used count c level o
  looked_step c level q l (Some k) g = g
  looked_step c level q l None g = look_none c level q l g

  pub kept_at : (r : ℕ) → r < count → slice_index_or (rows_in (length values) cells used count) r [] ≡ kept_row (length values) cells used r
  kept_at r h = get_or-map-range_with_len (kept_row (length values) cells used) 0 count r r [] h (omega arith)

  pub kept_count : length (rows_in (length values) cells used count) ≡ count
  kept_count = length-map-range_with_len (kept_row (length values) cells used) 0 count

  pub look_root : length row ≡ length values → 0 < count → Looks values row cells used count 0 0
  look_root e h = record { wide = e; some = h; within = omega (arith, s.many); here = root_depth cells used s.next_in; led = λ v l. absurd (omega arith) }

  pub looked_root : (o : Option ℕ) → Looked values row cells used count 0 0 o → CoverFound (rows_in (length values) cells used count) row o
  looked_root (Some k) g = record { below = omega (arith, kept_count, g.0); over = ap (λ x. covers x row) (kept_at k g.0) ∙ g.1 }
  looked_root None g = λ r q.
      let l : r < count = omega (arith, kept_count, q.below) in
      let z : length values - 0 ≡ length values = omega arith in
      g r l (ap (λ x. up cells x (leaf_of cells used r)) z ∙ from_root values cells used count s r l) (sym (ap (λ x. covers x row) (kept_at r l)) ∙ q.over)
