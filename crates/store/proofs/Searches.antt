-- What a comparison of bytes says of the rows that lie there.
use Rattle.std.proofs.Common.{◌≡◌, ℕ, ◌<◌, Bool, true, false, List, [], length, get_or, sym, refl, subst, arith, MatchBool, Option, Some, None}
use Rattle.std.proofs.lemmas.Bool.{both_ways}
use Rattle.rows.specs.Rows.{Row, covers, fits, fits_at}
use Rattle.rows.proofs.Both.{both_length}
use Rattle.store.specs.Stores.{CoverFound}
use Rattle.store.specs.Blocks.{row_at, rows_of, kept_at, length_rows}

-- a row that fits is as long as the values table
pub wide : (values row : List ℕ) → fits values row ≡ true → length row ≡ length values
wide values row f = sym (both_length fits_at values row f)

-- a fact of none of the first n rows
pub none_of : (P : Row → Type 0) (width n : ℕ) (bytes : List ℕ) → ((k : ℕ) → k < n → P (row_at width bytes k) → ⊥)
    → (r : ℕ) → r < length (rows_of width n bytes) → P (get_or (rows_of width n bytes) r []) → ⊥
none_of P width n bytes f r h p =
    let l : r < n = omega (arith, length_rows width n bytes) in
    f r l (subst P (kept_at width n bytes r l) p)

-- and of one of them
pub one_of : (P : Row → Type 0) (width n : ℕ) (bytes : List ℕ) (r : ℕ) → r < n → P (row_at width bytes r)
    → (r < length (rows_of width n bytes)) × P (get_or (rows_of width n bytes) r [])
one_of P width n bytes r h p = (omega (arith, length_rows width n bytes), subst P (sym (kept_at width n bytes r h)) p)

-- what a test has told, by its answer
pub told : (b : Bool) {P Q : Type 0} → (b ≡ true → P) → (b ≡ false → Q) → MatchBool b P Q
told true p q = p refl
told false p q = q refl

-- what a search among the first n rows has found
pub cover_found : (width n : ℕ) (bytes row : List ℕ) (o : Option ℕ) → (o ≡ None → (r : ℕ) → r < n → covers (row_at width bytes r) row ≡ false)
    → ((r : ℕ) → o ≡ Some r → (r < n) × (covers (row_at width bytes r) row ≡ true)) → CoverFound (rows_of width n bytes) row o
cover_found width n bytes row None none some = λ r q.
    none_of (λ x. covers x row ≡ true) width n bytes (λ k h v. both_ways (covers (row_at width bytes k) row) (none refl k h) v) r q.below q.over
cover_found width n bytes row (Some r) none some =
    let f = some r refl in
    let o = one_of (λ x. covers x row ≡ true) width n bytes r f.0 f.1 in
    record { below = o.0; over = o.1 }
