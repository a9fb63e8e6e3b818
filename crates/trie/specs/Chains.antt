-- Parents and levels, which follow from the chains of branches.
use Rattle.std.specs.Prelude.{◌≡◌, ℕ, zero, suc, ◌+◌, ◌-◌, ◌<◌, ◌≤◌, false, cond, List, ◌==◌, ◌≢◌, nat_eq}
use Rattle.std.proofs.Math.Path.{refl, sym, ap}
use Rattle.std.proofs.Common.{◌∙◌, inl, inr}
use native.Mathlib.Omega.{arith}
use Rattle.std.proofs.lemmas.Bool.{cases_Bool, eqb-false, ne_eqb, eq-eqb, cond-true, cond-false}
use Rattle.trie.specs.declared.cells.Cell.{Cell}
use Rattle.trie.specs.Cells.{at, oldest, parent_of, depth_in, depth_of, leaf_of}

-- each chain falls
abbrev pub Falls : List Cell → ℕ → Type 0
Falls cells used = (c : ℕ) → 0 < c → c < used → (at cells c).next < c

module _ (cells : List Cell) (used : ℕ) (falls : Falls cells used) where
  oldest_fuel : (n m c : ℕ) → 0 < c → c < used → c ≤ n → c ≤ m → oldest cells n c ≡ oldest cells m c
  oldest_fuel zero m c p h a b = absurd (omega arith)
  oldest_fuel (suc n) zero c p h a b = absurd (omega arith)
  oldest_fuel (suc n) (suc m) c p h a b = elim (cases_Bool ((at cells c).next == 0)) [
    | inl e ↦ rw e
    | inr e ↦
        let q : 0 < (at cells c).next = omega (arith, eqb-false (at cells c).next 0 e) in
        let l = falls c p h in
        rw e (oldest_fuel n m (at cells c).next q (omega arith) (omega arith) (omega arith))
  ]

  oldest_in : (n c : ℕ) → 0 < c → c < used → (0 < oldest cells n c) × (oldest cells n c ≤ c)
  oldest_in zero c p h = (p, omega arith)
  oldest_in (suc n) c p h = elim (cases_Bool ((at cells c).next == 0)) [
    | inl e ↦
        let z : oldest cells (suc n) c ≡ c = cond-true ((at cells c).next == 0) c (oldest cells n (at cells c).next) e in
        (omega arith, omega arith)
    | inr e ↦
        let q : 0 < (at cells c).next = omega (arith, eqb-false (at cells c).next 0 e) in
        let l = falls c p h in
        let i = oldest_in n (at cells c).next q (omega arith) in
        let z : oldest cells (suc n) c ≡ oldest cells n (at cells c).next = cond-false ((at cells c).next == 0) c (oldest cells n (at cells c).next) e in
        (omega (arith, i.0), omega (arith, i.1))
  ]

  pub upward : (c : ℕ) → 0 < c → c < used → parent_of cells c < c
  unfolding parent_of
  upward c p h = let i = oldest_in c c p h in omega (arith, i.0, i.1)

  -- the oldest branch lies right after its parent
  pub parent_oldest : (c : ℕ) → 0 < c → (at cells c).next ≡ 0 → parent_of cells c + 1 ≡ c
  unfolding parent_of
  parent_oldest zero p e = absurd (omega arith)
  parent_oldest (suc c) p e =
      let z : oldest cells (suc c) (suc c) ≡ suc c = cond-true ((at cells (suc c)).next == 0) (suc c) (oldest cells c (at cells (suc c)).next) (eq-eqb (at cells (suc c)).next 0 e) in
      omega arith

  -- branches of one chain have one parent
  pub parent_next : (c : ℕ) → 0 < c → c < used → 0 < (at cells c).next → parent_of cells (at cells c).next ≡ parent_of cells c
  unfolding parent_of
  parent_next zero p h q = absurd (omega arith)
  parent_next (suc c) p h q =
      let n = (at cells (suc c)).next in
      let l : n < suc c = falls (suc c) p h in
      let e : nat_eq n 0 ≡ false = ne_eqb n 0 (λ z. omega arith) in
      let z : oldest cells (suc c) (suc c) ≡ oldest cells c n = cond-false (n == 0) (suc c) (oldest cells c n) e in
      ap (λ x. x - 1) (oldest_fuel n c n q (omega arith) (omega arith) (omega arith) ∙ sym z)

  depth_fuel : (n m c : ℕ) → c < used → c ≤ n → c ≤ m → depth_in cells n c ≡ depth_in cells m c
  depth_fuel zero zero c h a b = refl
  depth_fuel zero (suc m) c h a b = let z : c ≡ 0 = omega arith in sym (cond-true (c == 0) 0 (depth_in cells m (parent_of cells c) + 1) (eq-eqb c 0 z))
  depth_fuel (suc n) zero c h a b = let z : c ≡ 0 = omega arith in cond-true (c == 0) 0 (depth_in cells n (parent_of cells c) + 1) (eq-eqb c 0 z)
  depth_fuel (suc n) (suc m) c h a b = elim (cases_Bool (c == 0)) [
    | inl e ↦ rw e
    | inr e ↦
        let p : 0 < c = omega (arith, eqb-false c 0 e) in
        let l = upward c p h in
        rw e (ap (λ x. x + 1) (depth_fuel n m (parent_of cells c) (omega arith) (omega arith) (omega arith)))
  ]

  pub root_depth : depth_of cells 0 ≡ 0
  unfolding depth_of
  root_depth = refl

  pub deeper : (c : ℕ) → 0 < c → c < used → depth_of cells c ≡ depth_of cells (parent_of cells c) + 1
  unfolding depth_of
  deeper zero p h = absurd (omega arith)
  deeper (suc c) p h =
      let l = upward (suc c) p h in
      let q = parent_of cells (suc c) in
      cond-false (suc c == 0) 0 (depth_in cells c q + 1) (ne_eqb (suc c) 0 (λ z. omega arith))
      ∙ ap (λ x. x + 1) (depth_fuel c q q (omega arith) (omega arith) (omega arith))

-- cells that have the same chains
module _ (cs ds : List Cell) (used : ℕ) (falls : Falls cs used) (next : (x : ℕ) → x < used → (at ds x).next ≡ (at cs x).next) where
  oldest_same : (n c : ℕ) → 0 < c → c < used → oldest ds n c ≡ oldest cs n c
  oldest_same zero c p h = refl
  oldest_same (suc n) c p h =
      ap (λ x. cond (x == 0) c (oldest ds n x)) (next c h)
      ∙ elim (cases_Bool ((at cs c).next == 0)) [
        | inl e ↦ rw e
        | inr e ↦
            let q : 0 < (at cs c).next = omega (arith, eqb-false (at cs c).next 0 e) in
            let l = falls c p h in
            rw e (oldest_same n (at cs c).next q (omega arith))
      ]

  pub parent_same : (c : ℕ) → c < used → parent_of ds c ≡ parent_of cs c
  unfolding parent_of
  parent_same zero h = refl
  parent_same (suc c) h = ap (λ x. x - 1) (oldest_same (suc c) (suc c) (omega arith) h)

  depth_in_same : (n c : ℕ) → c < used → depth_in ds n c ≡ depth_in cs n c
  depth_in_same zero c h = refl
  depth_in_same (suc n) c h =
      ap (λ x. cond (c == 0) 0 (depth_in ds n x + 1)) (parent_same c h)
      ∙ elim (cases_Bool (c == 0)) [
        | inl e ↦ rw e
        | inr e ↦
            let p : 0 < c = omega (arith, eqb-false c 0 e) in
            let l = upward cs used falls c p h in
            rw e (ap (λ x. x + 1) (depth_in_same n (parent_of cs c) (omega arith)))
      ]

  pub depth_same : (c : ℕ) → c < used → depth_of ds c ≡ depth_of cs c
  unfolding depth_of
  depth_same c h = depth_in_same c c h

pub leaf_same : (cs ds : List Cell) (n r : ℕ) → ((x : ℕ) → x < n → (at ds x).rank ≡ (at cs x).rank) → leaf_of ds n r ≡ leaf_of cs n r
leaf_same cs ds zero r e = refl
leaf_same cs ds (suc n) r e =
    ap (λ x. cond (x == r) n (leaf_of ds n r)) (e n (omega arith)) ∙ ap (cond ((at cs n).rank == r) n) (leaf_same cs ds n r (λ x h. e x (omega arith)))

-- cells of other rows do not matter
pub leaf_skip : (cells : List Cell) (n k m r : ℕ) → m ≡ n + k → ((x : ℕ) → n ≤ x → x < m → (at cells x).rank ≢ r) → leaf_of cells m r ≡ leaf_of cells n r
leaf_skip cells n zero m r e f = let z : m ≡ n = omega arith in ap (λ x. leaf_of cells x r) z
leaf_skip cells n (suc k) zero r e f = absurd (omega arith)
leaf_skip cells n (suc k) (suc m) r e f =
    cond-false ((at cells m).rank == r) m (leaf_of cells m r) (ne_eqb (at cells m).rank r (f m (omega arith) (omega arith)))
    ∙ leaf_skip cells n k m r (omega arith) (λ x a b. f x a (omega arith))

pub leaf_last : (cells : List Cell) (n m r : ℕ) → m ≡ n + 1 → (at cells n).rank ≡ r → leaf_of cells m r ≡ n
leaf_last cells n zero r e f = absurd (omega arith)
leaf_last cells n (suc m) r e f =
    let z : m ≡ n = omega arith in
    cond-true ((at cells m).rank == r) m (leaf_of cells m r) (eq-eqb (at cells m).rank r (ap (λ x. (at cells x).rank) z ∙ f)) ∙ z
