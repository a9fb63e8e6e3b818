-- The steps of keeping a row in a trie.
use Rattle.std.proofs.Common.{◌≡◌, ℕ, ◌+◌, ◌-◌, ◌*◌, ◌/◌, ◌<◌, ◌≤◌, min, Bool, true, false, cond, ◌&&◌, ltb, leb, ◌≢◌, List, [], ◌∷◌, ◌++◌, length, get_or, get_or-take, get_or-drop, take, drop, set, sym, refl, ap, ◌∙◌, subst, mul-le-mul_right, add-mul, one-mul, arith}
use Rattle.std.proofs.lemmas.Bool.{and_parts, ltb-true, leb-true}
use Rattle.std.proofs.lemmas.List.{get_or-set_other, length-set}
use Rattle.rows.specs.Rows.{fits, fits_at, usable, valued}
use Rattle.rows.proofs.Both.{both_length}
use Rattle.store.specs.Stores.{space_of}
use Rattle.store.specs.Laws.{space_short}
use Rattle.trie.specs.declared.cells.Cell.{Cell}
use Rattle.trie.specs.declared.tries.Trie.{Trie}
use Rattle.trie.specs.Cells.{at, blank, headed, linked, rows_in, IsSound}
use Rattle.trie.specs.Lookups.{Deepest}
use Rattle.trie.proofs.Descents.{of, space_for}
use Rattle.trie.proofs.Sames.{same_sound}
use Rattle.trie.proofs.Grows.{grown, grown_sound}
use Rattle.trie.proofs.Gains.{grown_rows}

measured_usable : (b : Bool) (n : ℕ) → 0 < cond b n 0 → b ≡ true
measured_usable true n h = refl
measured_usable false n h = absurd (omega arith)

-- a trie with space for a row is over 1 to 64 variables
pub width : (a : Trie) → 0 < a.space → (0 < length a.values.now) × (length a.values.now ≤ 64)
width a h =
    let vs = a.values.now in
    let u = measured_usable (usable vs) (min 65535 ((length a.cells.now - 1) / length vs)) (omega (arith, a.measured)) in
    let p = (and_parts (ltb 0 (length vs) && leb (length vs) 64) (valued vs) u).0 in
    let q = and_parts (ltb 0 (length vs)) (leb (length vs) 64) p in
    (ltb-true 0 (length vs) q.0, leb-true (length vs) 64 q.1)

-- the places of its cells are numbers of 32 bits
pub short : (a : Trie) (k : ℕ) → a.count < a.space → k ≤ length a.values.now → a.used + k ≤ 4194241
short a k h l =
    let w = length a.values.now in
    let m : a.space ≤ 65535 = omega (arith, a.measured, space_short (usable a.values.now) ((length a.cells.now - 1) / w)) in
    let p : (a.count + 1) * w ≤ 65535 * w = mul-le-mul_right w (let q : a.count + 1 ≤ 65535 = omega arith in q) in
    omega (arith, p, (width a (omega arith)).1, (of a).few, add-mul a.count 1 w, one-mul w)

pub space_next : (a : Trie) (k : ℕ) → a.count < a.space → k ≤ length a.values.now → a.used + k ≤ length a.cells.now
space_next a k h l =
    let w = length a.values.now in
    let f : 1 + (a.count + 1) * w ≤ length a.cells.now = space_for a.values.now (length a.cells.now) a.space (a.count + 1) a.measured (omega arith) (omega arith) in
    omega (arith, f, (of a).few, add-mul a.count 1 w, one-mul w)

-- where the i-th new cell of a row lies: a place of 32 bits, inside the cells
module _ (a : Trie) (row : List ℕ) (level i : ℕ) (fit : fits a.values.now row ≡ true) (spare : a.count < a.space) (h : i < length row - level) where
  pub place : a.used + (i + 1) ≤ 4194241
  place = short a (i + 1) spare (omega (arith, both_length fits_at a.values.now row fit))

  pub fresh_place : a.used + i < length a.cells.now
  fresh_place = omega (arith, space_next a (i + 1) spare (omega (arith, both_length fits_at a.values.now row fit)))

-- a way that ends before the row does lies above the last level
pub shallow : (a : Trie) (row : List ℕ) (c l : ℕ) → fits a.values.now row ≡ true → Deepest a.values.now row a.cells.now a.used c l → (l ≢ length row) → l < length a.values.now
shallow a row c l f d n = omega (arith, d.deep, both_length fits_at a.values.now row f)

-- what the ghost fields ask
pub record Asked (values : List ℕ) (cells : List Cell) (space used count : ℕ) : Type 0 where
  pub measured : space ≡ space_of values (length cells - 1)
  pub inside : count ≤ space
  pub sound : IsSound values cells used count

pub still : (s : Trie) (i : ℕ) (y : Cell) → s.used ≤ i → Asked s.values.now (set s.cells.now i y) s.space s.used s.count
still s i y h =
    let cs = s.cells.now in
    let o : (x : ℕ) → x < s.used → at (set cs i y) x ≡ at cs x = λ x l. let ne : x ≢ i = omega arith in get_or-set_other cs i x y blank ne in
    record {
      measured = s.measured ∙ ap (λ n. space_of s.values.now (n - 1)) (sym (length-set cs i y));
      inside = s.inside;
      sound = λ x. x (same_sound s.values.now cs (set cs i y) s.used s.count (length-set cs i y) o (of s));
    }

-- the trie s is the trie a but for the first i of the k new cells of the row, which lie past the used ones
pub record Filling (a s : Trie) (row : List ℕ) (head level k i : ℕ) : Type 0 where
  pub values : s.values ≡ a.values
  pub space : s.space ≡ a.space
  pub used : s.used ≡ a.used
  pub count : s.count ≡ a.count
  pub lender : s.cells.ghost_name ≡ a.cells.ghost_name
  pub long : length s.cells.now ≡ length a.cells.now
  pub old : (x : ℕ) → x < a.used → at s.cells.now x ≡ at a.cells.now x
  pub new : (j : ℕ) → j < i → at s.cells.now (a.used + j) ≡ linked head a.used k a.count j (get_or row (level + j) 0)

-- byte i of the row from the level on
pub rest_byte : (row : List ℕ) (level i : ℕ) → i < length row - level → get_or (take (length row - level) (drop level row)) i 0 ≡ get_or row (level + i) 0
rest_byte row level i h = rw (get_or-take, get_or-drop)

abbrev pub hung_in : List Cell → ℕ → ℕ → List Cell
hung_in cs c v = set cs c (headed (at cs c) v)

-- once they are all written and hung below the cell c, the counts can be raised
pub hung : (a s : Trie) (row : List ℕ) (c level k i : ℕ) → Filling a s row (at a.cells.now c).head level k i → k ≤ i
    → a.count < a.space → Deepest a.values.now row a.cells.now a.used c level
    → level + k ≡ length a.values.now → 0 < k → fits a.values.now row ≡ true
    → Asked s.values.now (hung_in s.cells.now c a.used) s.space (a.used + k) (a.count + 1)
    × (rows_in (length s.values.now) (hung_in s.cells.now c a.used) (a.used + k) (a.count + 1) ≡ rows_in (length a.values.now) a.cells.now a.used a.count ++ row ∷ [])
hung a s row c level k i w all h d ends some fit =
    let v = ap (λ x. x.now) w.values in
    let l : a.used + k ≤ length s.cells.now = omega (arith, space_next a k h (omega arith), w.long) in
    let ds = hung_in s.cells.now c a.used in
    let g = grown a.values.now row a.cells.now s.cells.now a.used a.count c level k l d ends some fit w.old (λ j q. w.new j (omega arith)) in
    let z = grown_sound a.values.now row a.cells.now ds a.used a.count c level k (of a) g in
    let r = grown_rows a.values.now row a.cells.now ds a.used a.count c level k (of a) g in
    let n : length s.cells.now ≡ length ds = sym (length-set s.cells.now c _) in (
      record {
        measured = s.measured ∙ ap (λ x. space_of s.values.now (x - 1)) n;
        inside = omega (arith, w.space);
        sound = subst (λ x. IsSound x ds (a.used + k) (a.count + 1)) (sym v) (λ x. x z);
      },
      ap (λ x. rows_in (length x) ds (a.used + k) (a.count + 1)) v ∙ r,
    )
