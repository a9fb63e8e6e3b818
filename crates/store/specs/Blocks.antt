-- Rows that lie one after the other in bytes.
use Rattle.std.specs.Prelude.{◌≡◌, ℕ, ◌+◌, ◌*◌, ◌/◌, ◌<◌, ◌≤◌, min, Bool, true, false, cond, List, [], map, length, take, drop, slice_index, slice_index_or}
use Rattle.std.proofs.Common.{div-mul-le_self, mul-le-mul_right, add-mul, one-mul, arith, length-take, length-drop, get_or-take, get_or-drop}
use Rattle.std.specs.List.{range_with_len}
use Rattle.std.proofs.lemmas.List.FromFn.{length-map-range_with_len, get_or-map-range_with_len}
use Rattle.rows.specs.Rows.{Row, usable}
use Rattle.store.specs.Stores.{space_of}

-- row r of the rows of that width
abbrev pub row_at : ℕ → List ℕ → ℕ → Row
row_at width bytes r = take width (drop (r * width) bytes)

-- the first n of them
abbrev pub rows_of : ℕ → ℕ → List ℕ → List Row
rows_of width n bytes = map (row_at width bytes) (range_with_len 0 n)

within_size : (b : Bool) (width size space r : ℕ) → space ≡ cond b (min 65535 (size / width)) 0 → r < space → (r + 1) * width ≤ size
within_size true width size space r e h =
    let q : r + 1 ≤ size / width = omega arith in
    let m : (r + 1) * width ≤ (size / width) * width = mul-le-mul_right width q in
    let d : (size / width) * width ≤ size = div-mul-le_self size width in
    omega arith
within_size false width size space r e h = absurd (omega arith)

-- a row within the capacity lies inside the memory
pub inside : (values : List ℕ) (size space r : ℕ) → space ≡ space_of values size → r < space → (r + 1) * length values ≤ size
inside values size space r e h = within_size (usable values) (length values) size space r e h

-- and so does each of its bytes
pub place_inside : (width size r v : ℕ) → (r + 1) * width ≤ size → v < width → r * width + v < size
place_inside width size r v h l = omega (arith, add-mul r 1 width, one-mul width)

pub row_read : (width : ℕ) (bytes : List ℕ) (r v : ℕ) → v < width → slice_index (row_at width bytes r) v ≡ slice_index bytes (r * width + v)
row_read width bytes r v h = rw (get_or-take, get_or-drop)

pub length_row : (width : ℕ) (bytes : List ℕ) (r : ℕ) → (r + 1) * width ≤ length bytes → length (row_at width bytes r) ≡ width
length_row width bytes r h = simp (length-take, length-drop) (omega (arith, add-mul r 1 width, one-mul width))

pub kept_at : (width n : ℕ) (bytes : List ℕ) (r : ℕ) → r < n → slice_index_or (rows_of width n bytes) r [] ≡ row_at width bytes r
kept_at width n bytes r h = get_or-map-range_with_len (row_at width bytes) 0 n r r [] h (omega arith)

pub length_rows : (width n : ℕ) (bytes : List ℕ) → length (rows_of width n bytes) ≡ n
length_rows width n bytes = length-map-range_with_len (row_at width bytes) 0 n
