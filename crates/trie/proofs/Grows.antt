-- One row more in a trie.
use Rattle.std.proofs.Common.{◌≡◌, ℕ, zero, suc, ◌+◌, ◌-◌, ◌*◌, ◌<◌, ◌≤◌, true, ◌⊎◌, List, length, get_or, set, sym, refl, ap, ◌∙◌, subst, inl, inr, add-mul, one-mul, zero-mul, arith}
use Rattle.std.proofs.lemmas.Bool.{cases_lt, cases_eq}
use Rattle.std.proofs.lemmas.Bool.Decides.{nat_tests}
use Rattle.std.proofs.lemmas.List.{get_or-set_same, get_or-set_other, length-set}
use Rattle.rows.specs.Rows.{fits, fits_at}
use Rattle.rows.proofs.Both.{both_at}
use Rattle.trie.specs.declared.cells.Cell.{Cell}
use Rattle.trie.specs.Cells.{at, blank, parent_of, depth_of, leaf_of, linked, headed, Sound}
use Rattle.trie.specs.Chains.{upward, deeper, parent_oldest, parent_next, parent_same, depth_same, leaf_same, leaf_skip, leaf_last}
use Rattle.trie.specs.Lookups.{Deepest}
use Rattle.trie.specs.Wells.{head_within}

-- what the cells hold after the k cells of a row were written past the used ones and hung below the cell c, which lies in the level `level`
pub record Grown (values row : List ℕ) (cs ds : List Cell) (used count c level k : ℕ) : Type 0 where
  pub holds : used + k ≤ length ds
  pub next : (x : ℕ) → x < used → (at ds x).next ≡ (at cs x).next
  pub rank : (x : ℕ) → x < used → (at ds x).rank ≡ (at cs x).rank
  pub byte : (x : ℕ) → x < used → (at ds x).byte ≡ (at cs x).byte
  pub head : (x : ℕ) → x < used → (x ≡ c → ⊥) → (at ds x).head ≡ (at cs x).head
  pub link : (at ds c).head ≡ used
  pub new_next0 : (at ds used).next ≡ (at cs c).head
  pub new_next : (x : ℕ) → used < x → x < used + k → (at ds x).next ≡ 0
  pub new_head : (x : ℕ) → used ≤ x → x + 1 < used + k → (at ds x).head ≡ x + 1
  pub new_last : (x : ℕ) → used ≤ x → x + 1 ≡ used + k → (at ds x).head ≡ 0
  pub new_rank : (x : ℕ) → used ≤ x → x < used + k → (at ds x).rank ≡ count
  pub new_byte : (x : ℕ) → used ≤ x → x < used + k → (at ds x).byte ≡ get_or row (level + (x - used)) 0
  pub deepest : Deepest values row cs used c level
  pub ends : level + k ≡ length values
  pub some : 0 < k
  pub fit : fits values row ≡ true

-- from what the loop and the last write leave
module _ (values row : List ℕ) (cs es : List Cell) (used count c level k : ℕ)
    (long : used + k ≤ length es)
    (deepest : Deepest values row cs used c level)
    (ends : level + k ≡ length values)
    (some : 0 < k)
    (fit : fits values row ≡ true)
    (old : (x : ℕ) → x < used → at es x ≡ at cs x)
    (new : (j : ℕ) → j < k → at es (used + j) ≡ linked (at cs c).head used k count j (get_or row (level + j) 0))
  where
    abbrev ds : List Cell
    ds = set es c (headed (at es c) used)

    in_es : c < length es
    in_es = omega (arith, deepest.within)

    keeps : (P : Cell → ℕ) → ((y : Cell) (v : ℕ) → P (headed y v) ≡ P y) → (x : ℕ) → P (at ds x) ≡ P (at es x)
    keeps P f x = elim (cases_eq x c) [
      | inl e ↦ ap (λ z. P (at ds z)) e ∙ ap P (get_or-set_same es c (headed (at es c) used) blank in_es) ∙ f (at es c) used ∙ ap (λ z. P (at es z)) (sym e)
      | inr ne ↦ ap P (get_or-set_other es c x (headed (at es c) used) blank ne)
    ]

    new_at : (x : ℕ) → used ≤ x → x < used + k → at es x ≡ linked (at cs c).head used k count (x - used) (get_or row (level + (x - used)) 0)
    new_at x a b =
        let e : used + (x - used) ≡ x = omega arith in
        ap (at es) (sym e) ∙ new (x - used) (omega arith)

    head_new : (x : ℕ) → used ≤ x → (at ds x).head ≡ (at es x).head
    head_new x h = ap (λ y. y.head) (get_or-set_other es c x (headed (at es c) used) blank (λ e. omega (arith, deepest.within)))

    pub grown : Grown values row cs ds used count c level k
    grown = record {
      holds = omega (arith, length-set es c (headed (at es c) used));
      next = λ x h. keeps (λ y. y.next) (λ y v. refl) x ∙ ap (λ y. y.next) (old x h);
      rank = λ x h. keeps (λ y. y.rank) (λ y v. refl) x ∙ ap (λ y. y.rank) (old x h);
      byte = λ x h. keeps (λ y. y.byte) (λ y v. refl) x ∙ ap (λ y. y.byte) (old x h);
      head = λ x h ne. ap (λ y. y.head) (get_or-set_other es c x (headed (at es c) used) blank ne) ∙ ap (λ y. y.head) (old x h);
      link = ap (λ y. y.head) (get_or-set_same es c (headed (at es c) used) blank in_es);
      new_next0 =
          let z : used - used ≡ 0 = omega arith in
          keeps (λ y. y.next) (λ y v. refl) used ∙ ap (λ y. y.next) (new_at used (omega arith) (omega arith) ∙ ap (λ j. linked (at cs c).head used k count j (get_or row (level + j) 0)) z);
      new_next = λ x a b.
          let e = keeps (λ y. y.next) (λ y v. refl) x ∙ ap (λ y. y.next) (new_at x (omega arith) b) in
          grind (arith, nat_tests, e);
      new_head = λ x a b.
          let e = head_new x a ∙ ap (λ y. y.head) (new_at x a (omega arith)) in
          grind (arith, nat_tests, e);
      new_last = λ x a b.
          let e = head_new x a ∙ ap (λ y. y.head) (new_at x a (omega arith)) in
          grind (arith, nat_tests, e);
      new_rank = λ x a b. keeps (λ y. y.rank) (λ y v. refl) x ∙ ap (λ y. y.rank) (new_at x a b);
      new_byte = λ x a b. keeps (λ y. y.byte) (λ y v. refl) x ∙ ap (λ y. y.byte) (new_at x a b);
      deepest = deepest;
      ends = ends;
      some = some;
      fit = fit;
    }

module _ (values row : List ℕ) (cs ds : List Cell) (used count c level k : ℕ) (s : Sound values cs used count) (g : Grown values row cs ds used count c level k) where
  w_c : c < used
  w_c = g.deepest.within

  head_c : (at cs c).head < used
  head_c = head_within values cs used count s c w_c

  -- a cell is old, the first new one, or a later one
  kind : (x : ℕ) → x < used + k → (x < used) ⊎ ((x ≡ used) ⊎ (used < x))
  kind x h = elim (cases_lt x used) [ inl l ↦ inl l | inr q ↦ elim (cases_eq x used) [ inl e ↦ inr (inl e) | inr ne ↦ inr (inr (omega arith)) ] ]

  -- chains still fall
  falls : (x : ℕ) → 0 < x → x < used + k → (at ds x).next < x
  falls x a b = elim (kind x b) [
    | inl l ↦ omega (arith, g.next x l, s.next_in x a l)
    | inr q ↦ elim q [
      | inl e ↦ omega (arith, ap (λ z. (at ds z).next) e, g.new_next0, head_c)
      | inr l ↦ omega (arith, g.new_next x l b)
    ]
  ]

  pub parent : (x : ℕ) → x < used → parent_of ds x ≡ parent_of cs x
  parent = parent_same cs ds used s.next_in g.next

  pub depth : (x : ℕ) → x < used → depth_of ds x ≡ depth_of cs x
  depth = depth_same cs ds used s.next_in g.next

  pub leaf : (r : ℕ) → r < count → leaf_of ds (used + k) r ≡ leaf_of cs used r
  leaf r h = leaf_skip ds used k (used + k) r refl (λ x a b e. omega (arith, g.new_rank x a b)) ∙ leaf_same cs ds used r g.rank

  pub note : leaf_of ds (used + k) count + 1 ≡ used + k
  note =
      let m = used + k - 1 in
      let e = leaf_last ds m (used + k) count (omega (arith, g.some)) (g.new_rank m (omega (arith, g.some)) (omega (arith, g.some))) in
      omega (arith, g.some)

  -- a cell with branches has another one; else it is the root, and the new cells are the first
  pub new_parent0 : parent_of ds used ≡ c
  new_parent0 = elim (cases_eq (at cs c).head 0) [
    | inl z ↦
        let n : count ≡ 0 = elim (cases_eq count 0) [ inl e ↦ e | inr ne ↦ absurd (omega (arith, z, s.goes_on c (omega arith) w_c (omega (arith, g.deepest.here, g.ends, g.some)))) ] in
        let u : used ≡ 1 = omega (arith, s.few, s.many, ap (λ x. x * length values) n, zero-mul (length values)) in
        omega (arith, w_c, parent_oldest ds (used + k) falls used (omega arith) (g.new_next0 ∙ z))
    | inr ne ↦
        let n : (at ds used).next ≡ (at cs c).head = g.new_next0 in
        let p : 0 < (at cs c).head = omega arith in
        sym (parent_next ds (used + k) falls used (omega (arith, s.many)) (omega (arith, g.some)) (omega arith))
        ∙ ap (parent_of ds) n ∙ parent (at cs c).head head_c ∙ s.head_up c w_c p
  ]

  pub new_parent : (x : ℕ) → used < x → x < used + k → parent_of ds x + 1 ≡ x
  new_parent x a b = parent_oldest ds (used + k) falls x (omega arith) (g.new_next x a b)

  new_level_at : (j : ℕ) → j < k → (x : ℕ) → x ≡ used + j → depth_of ds x ≡ level + 1 + j
  new_level_at zero h x e =
      let z : x ≡ used = omega arith in
      let d = deeper ds (used + k) falls x (omega (arith, s.many)) (omega arith) in
      omega (arith, d, ap (λ y. depth_of ds (parent_of ds y)) z, ap (depth_of ds) new_parent0, depth c w_c, g.deepest.here)
  new_level_at (suc j) h x e =
      let d = deeper ds (used + k) falls x (omega arith) (omega arith) in
      let n = new_parent x (omega arith) (omega arith) in
      let y : parent_of ds x ≡ used + j = omega arith in
      omega (arith, d, new_level_at j (omega arith) (parent_of ds x) y)

  pub new_level : (x : ℕ) → used ≤ x → x < used + k → depth_of ds x + used ≡ level + 1 + x
  new_level x a b = omega (arith, new_level_at (x - used) (omega arith) x (omega arith))

  -- no other cell has the parent of a cell that is new and not the first
  alone : (x d : ℕ) → used < x → x < used + k → 0 < d → d < x → parent_of ds d ≡ parent_of ds x → ⊥
  alone x d a b p l e = elim (cases_lt d used) [
    | inl h ↦ omega (arith, parent d h, upward cs used s.next_in d p h, new_parent x a b, e)
    | inr h ↦ elim (cases_eq d used) [
      | inl q ↦ omega (arith, ap (λ z. parent_of ds z) q, new_parent0, w_c, new_parent x a b, e)
      | inr ne ↦
          let u : used < d = omega arith in
          omega (arith, new_parent d u (omega arith), new_parent x a b, e)
    ]
  ]

  -- a used cell besides c is there only once a row is kept
  old_row : (x : ℕ) → x < used → (x ≡ c → ⊥) → depth_of cs x < length values → 0 < count
  old_row x l ne d = elim (cases_eq count 0) [
    | inl z ↦ absurd (ne (let u : used ≤ 1 = omega (arith, s.few, ap (λ y. y * length values) z, zero-mul (length values)) in omega (arith, w_c)))
    | inr nz ↦ omega arith
  ]

  pub grown_sound : Sound values ds (used + k) (count + 1)
  grown_sound = record {
    inside = λ h. g.holds;
    few = omega (arith, s.few, add-mul count 1 (length values), one-mul (length values), g.ends);
    many = omega (arith, s.many, g.some);
    deep = λ x a b. elim (cases_lt x used) [
      | inl l ↦ omega (arith, depth x l, s.deep x a l)
      | inr q ↦ omega (arith, new_level x q b, g.ends)
    ];
    goes_on = λ x n b d. elim (cases_lt x used) [
      | inl l ↦ elim (cases_eq x c) [
        | inl e ↦ omega (arith, ap (λ z. (at ds z).head) e, g.link, s.many)
        | inr ne ↦ omega (arith, g.head x l ne, s.goes_on x (old_row x l ne (omega (arith, depth x l))) l (omega (arith, depth x l)))
      ]
      | inr q ↦ omega (arith, g.new_head x q (omega (arith, new_level x q b, g.ends)))
    ];
    head_in = λ x b p. elim (cases_lt x used) [
      | inl l ↦ elim (cases_eq x c) [
        | inl e ↦ omega (arith, ap (λ z. (at ds z).head) e, g.link, g.some)
        | inr ne ↦ omega (arith, g.head x l ne, s.head_in x l (omega (arith, g.head x l ne)))
      ]
      | inr q ↦ elim (cases_lt (x + 1) (used + k)) [
        | inl l ↦ omega (arith, g.new_head x q l)
        | inr m ↦ omega (arith, g.new_last x q (omega arith))
      ]
    ];
    head_up = λ x b p. elim (cases_lt x used) [
      | inl l ↦ elim (cases_eq x c) [
        | inl e ↦ ap (λ z. parent_of ds (at ds z).head) e ∙ ap (λ z. parent_of ds z) g.link ∙ new_parent0 ∙ sym e
        | inr ne ↦
            let h = g.head x l ne in
            let o : 0 < (at cs x).head = omega (arith, h) in
            ap (λ z. parent_of ds z) h ∙ parent (at cs x).head (s.head_in x l o) ∙ s.head_up x l o
      ]
      | inr q ↦ elim (cases_lt (x + 1) (used + k)) [
        | inl l ↦ omega (arith, ap (λ z. parent_of ds z) (g.new_head x q l), new_parent (x + 1) (omega arith) l)
        | inr m ↦ absurd (omega (arith, g.new_last x q (omega arith)))
      ]
    ];
    next_in = falls;
    first = λ x a b. elim (kind x b) [
      | inl l ↦
          let p : parent_of cs x < used = omega (arith, upward cs used s.next_in x a l) in
          elim (cases_eq (parent_of cs x) c) [
            | inl e ↦ omega (arith, ap (λ z. (at ds z).head) (parent x l ∙ e), g.link)
            | inr ne ↦ omega (arith, ap (λ z. (at ds z).head) (parent x l), g.head (parent_of cs x) p ne, s.first x a l)
          ]
      | inr q ↦ elim q [
        | inl e ↦ omega (arith, ap (λ z. (at ds z).head) (ap (λ z. parent_of ds z) e ∙ new_parent0), g.link)
        | inr l ↦
            let n : parent_of ds x ≡ x - 1 = omega (arith, new_parent x l b) in
            omega (arith, ap (λ z. (at ds z).head) n, g.new_head (x - 1) (omega arith) (omega arith))
      ]
    ];
    then = λ x d p l b e. elim (kind x b) [
      | inl h ↦
          let hd : d < used = omega arith in
          omega (arith, g.next x h, s.then x d p l h (sym (parent d hd) ∙ e ∙ parent x h))
      | inr q ↦ elim q [
        | inl z ↦
            let hd : d < used = omega arith in
            let pc : parent_of cs d ≡ c = sym (parent d hd) ∙ e ∙ ap (λ y. parent_of ds y) z ∙ new_parent0 in
            let f : d ≤ (at cs c).head = subst (λ y. d ≤ (at cs y).head) pc (s.first d p hd) in
            omega (arith, f, ap (λ y. (at ds y).next) z, g.new_next0)
        | inr h ↦ absurd (alone x d h b p l e)
      ]
    ];
    apart = λ x d p l b e y. elim (kind x b) [
      | inl h ↦
          let hd : d < used = omega arith in
          s.apart x d p l h (sym (parent d hd) ∙ e ∙ parent x h) (sym (g.byte d hd) ∙ y ∙ g.byte x h)
      | inr q ↦ elim q [
        | inl z ↦
            let hd : d < used = omega arith in
            let pc : parent_of cs d ≡ c = sym (parent d hd) ∙ e ∙ ap (λ v. parent_of ds v) z ∙ new_parent0 in
            let n : level + (x - used) ≡ level = omega arith in
            let yb : (at cs d).byte ≡ get_or row level 0 = sym (g.byte d hd) ∙ y ∙ g.new_byte x (omega arith) b ∙ ap (λ v. get_or row v 0) n in
            g.deepest.fresh (omega (arith, g.ends, g.some)) d p hd pc yb
        | inr h ↦ alone x d h b p l e
      ]
    ];
    ranked = λ x a b e. elim (cases_lt x used) [
      | inl l ↦ omega (arith, g.rank x l, s.ranked x a l (sym (depth x l) ∙ e))
      | inr q ↦ omega (arith, g.new_rank x q b)
    ];
    noted = λ x a b e. elim (cases_lt x used) [
      | inl l ↦
          let f = sym (depth x l) ∙ e in
          ap (leaf_of ds (used + k)) (g.rank x l) ∙ leaf (at cs x).rank (s.ranked x a l f) ∙ s.noted x a l f
      | inr q ↦ omega (arith, ap (leaf_of ds (used + k)) (g.new_rank x q b), note, new_level x q b, g.ends, e)
    ];
    kept_in = λ r h. elim (cases_lt r count) [
      | inl l ↦ omega (arith, leaf r l, s.kept_in r l)
      | inr q ↦ let e : r ≡ count = omega arith in omega (arith, ap (leaf_of ds (used + k)) e, note)
    ];
    kept_deep = λ r h. elim (cases_lt r count) [
      | inl l ↦ ap (λ z. depth_of ds z) (leaf r l) ∙ depth (leaf_of cs used r) (s.kept_in r l) ∙ s.kept_deep r l
      | inr q ↦
          let e : r ≡ count = omega arith in
          let n : leaf_of ds (used + k) r + 1 ≡ used + k = ap (λ z. leaf_of ds (used + k) z + 1) e ∙ note in
          omega (arith, n, new_level (leaf_of ds (used + k) r) (omega (arith, n, g.some)) (omega (arith, n)), g.ends)
    ];
    kept_rank = λ r h. elim (cases_lt r count) [
      | inl l ↦ ap (λ z. (at ds z).rank) (leaf r l) ∙ g.rank (leaf_of cs used r) (s.kept_in r l) ∙ s.kept_rank r l
      | inr q ↦
          let e : r ≡ count = omega arith in
          let n : leaf_of ds (used + k) r + 1 ≡ used + k = ap (λ z. leaf_of ds (used + k) z + 1) e ∙ note in
          omega (arith, n, g.new_rank (leaf_of ds (used + k) r) (omega (arith, n, g.some)) (omega (arith, n)))
    ];
    fit = λ x a b. elim (cases_lt x used) [
      | inl l ↦ ap (λ z. fits_at (get_or values (z - 1) 0) (at ds x).byte) (depth x l) ∙ ap (fits_at (get_or values (depth_of cs x - 1) 0)) (g.byte x l) ∙ s.fit x a l
      | inr q ↦
          let v = level + (x - used) in
          let n : depth_of ds x - 1 ≡ v = omega (arith, new_level x q b) in
          ap (λ z. fits_at (get_or values z 0) (at ds x).byte) n ∙ ap (fits_at (get_or values v 0)) (g.new_byte x q b) ∙ both_at fits_at values row g.fit v (omega (arith, g.ends))
    ];
  }
