-- One row more at the end of a list, and in the bytes of a row store.
use Rattle.std.proofs.Common.{◌≡◌, ℕ, ◌+◌, ◌-◌, ◌*◌, ◌<◌, ◌≤◌, true, ◌⊎◌, List, [], ◌∷◌, ◌++◌, length, get_or, take, drop, set, sym, ap, ◌∙◌, subst, inl, inr, mul-le-mul_right, add-mul, one-mul, arith, rules}
use Rattle.std.proofs.lemmas.List.{ext_get_or, drop-set-add, take-set-le, length-set, length_push, get_or_append_left, get_or_push}
use Rattle.std.proofs.lemmas.Slice.{between_is, take-put_mid_below, between-put_mid, overwrites}
use Rattle.std.proofs.lemmas.Bool.{cases_lt}
use borrow.Rule.Slice.PartMut.{put_mid}
use Rattle.std.proofs.lemmas.List.FromFn.{map-range_with_len_more}
use Rattle.rows.specs.Rows.{Row, fits}
use Rattle.store.specs.Stores.{Distinct, AllFit, Holds, space_of}
use Rattle.store.specs.Blocks.{row_at, rows_of, kept_at, length_rows, inside}
use Rattle.store.proofs.Searches.{wide}

-- a byte that is written behind n rows changes none of them
row_set_at : (width : ℕ) (bytes : List ℕ) (r j x : ℕ) → width ≤ j → row_at width (set bytes (r * width + j) x) r ≡ row_at width bytes r
row_set_at width bytes r j x h =
    ap (take width) (drop-set-add (r * width) bytes j x) ∙ take-set-le width (drop (r * width) bytes) j x h

row_set : (width : ℕ) (bytes : List ℕ) (r i x : ℕ) → (r + 1) * width ≤ i → row_at width (set bytes i x) r ≡ row_at width bytes r
row_set width bytes r i x h =
    let e : r * width + (i - r * width) ≡ i = omega (arith, add-mul r 1 width, one-mul width) in
    let w : width ≤ i - r * width = omega (arith, add-mul r 1 width, one-mul width) in
    subst (λ n. row_at width (set bytes n x) r ≡ row_at width bytes r) e (row_set_at width bytes r (i - r * width) x w)

pub rows_set : (width n : ℕ) (bytes : List ℕ) (i x : ℕ) → n * width ≤ i → rows_of width n (set bytes i x) ≡ rows_of width n bytes
rows_set width n bytes i x h =
    ext_get_or [] (rows_of width n (set bytes i x)) (rows_of width n bytes) (length_rows width n (set bytes i x) ∙ sym (length_rows width n bytes))
    (λ r l.
    let b : r < n = omega (arith, length_rows width n (set bytes i x)) in
    let m : (r + 1) * width ≤ n * width = mul-le-mul_right width (let q : r + 1 ≤ n = omega arith in q) in
    kept_at width n (set bytes i x) r b ∙ row_set width bytes r i x (omega arith) ∙ sym (kept_at width n bytes r b))

part : (bytes : List ℕ) (a n : ℕ) → take n (drop a bytes) ≡ drop a (take (a + n) bytes)
part bytes a n = let e : a + n - a ≡ n = omega arith in ap (λ k. take k (drop a bytes)) (sym e) ∙ between_is bytes a (a + n)

-- a row is written right after the n rows that lie there
module _ (width n at k : ℕ) (bytes row new : List ℕ) (p : at ≡ n * width) (q : k ≡ width) (e : length row ≡ width) (w : new ≡ row) (i : (n + 1) * width ≤ length bytes) where
  old_row : (r : ℕ) → r < n → row_at width (put_mid at k bytes new) r ≡ row_at width bytes r
  old_row r h =
      let m : (r + 1) * width ≤ n * width = mul-le-mul_right width (let l : r + 1 ≤ n = omega arith in l) in
      let b : r * width + width ≤ at = omega (arith, add-mul r 1 width, one-mul width) in
      let l : at ≤ length bytes = omega (arith, add-mul n 1 width, one-mul width) in
      part (put_mid at k bytes new) (r * width) width ∙ ap (drop (r * width)) (take-put_mid_below at k bytes new (r * width + width) b l) ∙ sym (part bytes (r * width) width)

  new_row : row_at width (put_mid at k bytes new) n ≡ row
  new_row =
      let l : at ≤ length bytes = omega (arith, add-mul n 1 width, one-mul width) in
      let z : at + k - at ≡ width = omega arith in
      let f : length new ≡ at + k - at = ap length w ∙ e ∙ sym z in
      ap (λ x. take width (drop x (put_mid at k bytes new))) (sym p) ∙ ap (λ x. take x (drop at (put_mid at k bytes new))) (sym z)
      ∙ between-put_mid at k bytes new (at + k) l f ∙ w

  pub rows_push : rows_of width (n + 1) (put_mid at k bytes new) ≡ rows_of width n bytes ++ row ∷ []
  rows_push =
      let old : rows_of width n (put_mid at k bytes new) ≡ rows_of width n bytes =
      ext_get_or [] _ _ (length_rows width n (put_mid at k bytes new) ∙ sym (length_rows width n bytes))
      (λ r l.
      let b : r < n = omega (arith, length_rows width n (put_mid at k bytes new)) in
      kept_at width n (put_mid at k bytes new) r b ∙ old_row r b ∙ sym (kept_at width n bytes r b)) in
      map-range_with_len_more (row_at width (put_mid at k bytes new)) 0 n n (omega arith) ∙ ap (λ x. x ++ row_at width (put_mid at k bytes new) n ∷ []) old
      ∙ ap (λ x. rows_of width n bytes ++ x ∷ []) new_row

-- a row past the old ones is the new one
pub at_push : (rows : List Row) (row : Row) (r : ℕ) → r < length (rows ++ row ∷ [])
    → ((r < length rows) × (get_or (rows ++ row ∷ []) r [] ≡ get_or rows r [])) ⊎ ((r ≡ length rows) × (get_or (rows ++ row ∷ []) r [] ≡ row))
at_push rows row r h =
    let n : length (rows ++ row ∷ []) ≡ length rows + 1 = length_push rows row in
    elim (cases_lt r (length rows)) [
      | inl l ↦ inl (l, get_or_append_left rows (row ∷ []) [] r l)
      | inr g ↦ let e : length rows ≡ r = omega arith in inr (sym e, get_or_push rows row [] r e)
    ]

pub distinct_push : (rows : List Row) (row : Row) → Distinct rows → (Holds rows row → ⊥) → Distinct (rows ++ row ∷ [])
distinct_push rows row d none i j l h e =
    elim (at_push rows row j h) [
      | inl b ↦ elim (at_push rows row i (omega arith)) [
        | inl a ↦ d i j l b.0 (sym a.1 ∙ e ∙ b.1)
        | inr a ↦ absurd (omega (arith, a.0, b.0))
      ]
      | inr b ↦ elim (at_push rows row i (omega arith)) [
        | inl a ↦ none (i, a.0, sym a.1 ∙ e ∙ b.1)
        | inr a ↦ absurd (omega (arith, a.0, b.0))
      ]
    ]

pub fit_push : (values : List ℕ) (rows : List Row) (row : Row) → AllFit values rows → fits values row ≡ true → AllFit values (rows ++ row ∷ [])
fit_push values rows row a f r h =
    elim (at_push rows row r h) [
      | inl b ↦ ap (fits values) b.1 ∙ a r b.0
      | inr b ↦ ap (fits values) b.1 ∙ f
    ]

-- what the ghost fields of a row store ask
pub record Sound (values bytes : List ℕ) (space count : ℕ) : Type 0 where
  pub measured : space ≡ space_of values (length bytes)
  pub inside : count ≤ space
  pub apart : Distinct (rows_of (length values) count bytes)
  pub fit : AllFit values (rows_of (length values) count bytes)

-- which hold still once a byte behind the counted rows is written
pub still_sound : (values bytes : List ℕ) (space count i x : ℕ) → count * length values ≤ i
    → space ≡ space_of values (length bytes) → count ≤ space → Distinct (rows_of (length values) count bytes) → AllFit values (rows_of (length values) count bytes)
    → Sound values (set bytes i x) space count
still_sound values bytes space count i x le m c d a =
    let e = sym (rows_set (length values) count bytes i x le) in
    record {
      measured = m ∙ ap (space_of values) (sym (length-set bytes i x));
      inside = c;
      apart = subst Distinct e d;
      fit = subst (AllFit values) e a;
    }

-- a row more has space behind the counted ones
pub room : (values bytes row : List ℕ) (space count : ℕ) → fits values row ≡ true → count < space → space ≡ space_of values (length bytes)
    → count * length row + length row ≤ length bytes
room values bytes row space count f l m =
    let e : length row ≡ length values = wide values row f in
    let i = inside values (length bytes) space count m l in
    let z : count * length row + length row ≡ (count + 1) * length values = ap (λ x. count * x + x) e ∙ sym (add-mul count 1 (length values) ∙ ap (λ x. count * length values + x) (one-mul (length values))) in
    omega arith

-- and do once a row more is written and counted
pub more_sound : (values bytes row new : List ℕ) (space count at k : ℕ)
    → fits values row ≡ true → count < space → space ≡ space_of values (length bytes)
    → Distinct (rows_of (length values) count bytes) → AllFit values (rows_of (length values) count bytes)
    → (Holds (rows_of (length values) count bytes) row → ⊥)
    → at ≡ count * length row → k ≡ length row → new ≡ row
    → Sound values (put_mid at k bytes new) space (count + 1)
    × (rows_of (length values) (count + 1) (put_mid at k bytes new) ≡ rows_of (length values) count bytes ++ row ∷ [])
more_sound values bytes row new space count at k f l m d a none p q w =
    let i = inside values (length bytes) space count m l in
    let e : length row ≡ length values = wide values row f in
    let b : at + k ≤ length bytes = omega (arith, room values bytes row space count f l m) in
    let n : length new ≡ k = ap length w ∙ sym q in
    let z : length (put_mid at k bytes new) ≡ length bytes = search (rules, overwrites) in
    let t = rows_push (length values) count at k bytes row new (p ∙ ap (λ x. count * x) e) (q ∙ e) e w i in (
      record {
        measured = m ∙ ap (space_of values) (sym z);
        inside = omega arith;
        apart = subst Distinct (sym t) (distinct_push _ row d none);
        fit = subst (AllFit values) (sym t) (fit_push values _ row a f);
      },
      t,
    )
