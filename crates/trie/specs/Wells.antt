-- What is known of a sound trie.
use Rattle.std.specs.Prelude.{◌≡◌, ℕ, zero, suc, ◌+◌, ◌*◌, ◌<◌, ◌≤◌, Bool, true, List, length, ◌≢◌, refl}
use Rattle.std.proofs.Common.{ap, ◌∙◌, inl, inr, arith, mul-zero}
use Rattle.std.proofs.lemmas.Bool.{cases_lt, cases_eq, cases_Bool, both_ways}
use Rattle.trie.specs.declared.cells.Cell.{Cell}
use Rattle.trie.specs.Cells.{at, up, parent_of, depth_of, leaf_of, Sound, IsSound}
use Rattle.trie.specs.Chains.{upward, deeper, root_depth}

lt_stable : {x y : ℕ} → ((x < y → ⊥) → ⊥) → x < y
lt_stable {x} {y} n = elim (cases_lt x y) [ inl l ↦ l | inr g ↦ absurd (n (λ l. omega arith)) ]

le_stable : {x y : ℕ} → ((x ≤ y → ⊥) → ⊥) → x ≤ y
le_stable {x} {y} n = elim (cases_lt y x) [ inl l ↦ absurd (n (λ g. omega arith)) | inr g ↦ g ]

eq_stable : {x y : ℕ} → ((x ≢ y) → ⊥) → x ≡ y
eq_stable {x} {y} n = elim (cases_eq x y) [ inl e ↦ e | inr ne ↦ absurd (n ne) ]

true_stable : {b : Bool} → ((b ≢ true) → ⊥) → b ≡ true
true_stable {b} n = elim (cases_Bool b) [ inl e ↦ e | inr e ↦ absurd (n (λ t. both_ways b e t)) ]

pub well : (values : List ℕ) (cells : List Cell) (used count : ℕ) → IsSound values cells used count → Sound values cells used count
well values cells used count n = record {
  inside = λ h. le_stable (λ x. n (λ s. x (s.inside h)));
  few = le_stable (λ x. n (λ s. x s.few));
  many = lt_stable (λ x. n (λ s. x s.many));
  deep = λ c a b. le_stable (λ x. n (λ s. x (s.deep c a b)));
  goes_on = λ c a b d. lt_stable (λ x. n (λ s. x (s.goes_on c a b d)));
  head_in = λ c a b. lt_stable (λ x. n (λ s. x (s.head_in c a b)));
  head_up = λ c a b. eq_stable (λ x. n (λ s. x (s.head_up c a b)));
  next_in = λ c a b. lt_stable (λ x. n (λ s. x (s.next_in c a b)));
  first = λ c a b. le_stable (λ x. n (λ s. x (s.first c a b)));
  then = λ c d e f g h. le_stable (λ x. n (λ s. x (s.then c d e f g h)));
  apart = λ c d e f g h i. n (λ s. s.apart c d e f g h i);
  ranked = λ c a b d. lt_stable (λ x. n (λ s. x (s.ranked c a b d)));
  noted = λ c a b d. eq_stable (λ x. n (λ s. x (s.noted c a b d)));
  kept_in = λ r h. lt_stable (λ x. n (λ s. x (s.kept_in r h)));
  kept_deep = λ r h. eq_stable (λ x. n (λ s. x (s.kept_deep r h)));
  kept_rank = λ r h. eq_stable (λ x. n (λ s. x (s.kept_rank r h)));
  fit = λ c a b. true_stable (λ x. n (λ s. x (s.fit c a b)));
}

-- one step up first, or last
pub up_first : (cells : List Cell) (n c : ℕ) → up cells (suc n) c ≡ up cells n (parent_of cells c)
up_first cells zero c = refl
up_first cells (suc n) c = ap (λ x. parent_of cells x) (up_first cells n c)

pub up_add : (cells : List Cell) (m n p c : ℕ) → p ≡ m + n → up cells p c ≡ up cells m (up cells n c)
up_add cells zero n p c e = ap (λ y. up cells y c) (let q : p ≡ n = omega arith in q)
up_add cells (suc m) n p c e =
    let q : p ≡ suc (m + n) = omega arith in
    ap (λ y. up cells y c) q ∙ ap (λ y. parent_of cells y) (up_add cells m n (m + n) c refl)

module _ (values : List ℕ) (cells : List Cell) (used count : ℕ) (s : Sound values cells used count) where
  pub head_within : (c : ℕ) → c < used → (at cells c).head < used
  head_within c h = elim (cases_eq (at cells c).head 0) [ inl z ↦ omega (arith, z, s.many) | inr ne ↦ s.head_in c h (omega (arith, ne)) ]

  pub some_wide : 0 < count → 0 < length values
  some_wide h = elim (cases_eq (length values) 0) [
    | inl e ↦ absurd (omega (arith, s.few, s.many, ap (λ x. count * x) e ∙ mul-zero count))
    | inr ne ↦ omega arith
  ]

  -- a cell with a level above 0 is not the root
  pub not_root : (c : ℕ) → 0 < depth_of cells c → 0 < c
  not_root zero l = absurd (omega (arith, root_depth cells used s.next_in))
  not_root (suc c) l = omega arith

  pub is_root : (c : ℕ) → c < used → depth_of cells c ≡ 0 → c ≡ 0
  is_root zero h l = refl
  is_root (suc c) h l = absurd (omega (arith, deeper cells used s.next_in (suc c) (omega arith) h))

  -- n steps up from the cell x
  pub above : (x : ℕ) → x < used → (n : ℕ) → n ≤ depth_of cells x → (up cells n x < used) × (depth_of cells (up cells n x) + n ≡ depth_of cells x)
  above x h zero l = (h, omega arith)
  above x h (suc n) l =
      let o = above x h n (omega arith) in
      let y = up cells n x in
      let p : 0 < y = not_root y (omega (arith, o.1)) in
      (omega (arith, upward cells used s.next_in y p o.0, o.0), omega (arith, deeper cells used s.next_in y p o.0, o.1))

  -- and from the cell in which a kept row ends
  pub on_way : (k : ℕ) → k < count → (n : ℕ) → n ≤ length values → (up cells n (leaf_of cells used k) < used) × (depth_of cells (up cells n (leaf_of cells used k)) + n ≡ length values)
  on_way k h n l =
      let o = above (leaf_of cells used k) (s.kept_in k h) n (omega (arith, s.kept_deep k h)) in
      (o.0, o.1 ∙ s.kept_deep k h)

  -- every kept row begins at the root
  pub from_root : (k : ℕ) → k < count → up cells (length values) (leaf_of cells used k) ≡ 0
  from_root k h =
      let w = on_way k h (length values) (omega arith) in
      is_root (up cells (length values) (leaf_of cells used k)) w.0 (omega (arith, w.1))
