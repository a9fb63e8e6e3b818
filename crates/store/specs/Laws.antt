-- The laws of every store, from how a capacity is measured.
use Rattle.std.specs.Prelude.{◌≡◌, ℕ, ◌≤◌, min, Bool, true, false, cond, List, length}
use Rattle.std.proofs.Common.{arith}
use Rattle.rows.specs.Rows.{Row, usable}
use Rattle.store.specs.Stores.{Distinct, AllFit, space_of, Lawful}
use Rattle.store.specs.Blocks.{rows_of, length_rows}

pub space_short : (b : Bool) (n : ℕ) → cond b (min 65535 n) 0 ≤ 65535
space_short true n = omega arith
space_short false n = omega arith

space_none : (b : Bool) (n : ℕ) → b ≡ false → cond b n 0 ≡ 0
space_none b n e = rw e

pub lawful_from : (values : List ℕ) (rows : List Row) (size : ℕ) → Distinct rows → AllFit values rows → length rows ≤ space_of values size
    → Lawful values rows (space_of values size)
lawful_from values rows size d a c = record {
  distinct = d;
  fitting = a;
  within = c;
  short = space_short (usable values) _;
  unusable = λ e. space_none (usable values) _ e;
}

pub row_lawful : (values bytes : List ℕ) (space count : ℕ)
    → space ≡ space_of values (length bytes) → count ≤ space
    → Distinct (rows_of (length values) count bytes) → AllFit values (rows_of (length values) count bytes)
    → Lawful values (rows_of (length values) count bytes) (space_of values (length bytes))
row_lawful values bytes space count m c d a =
    lawful_from values (rows_of (length values) count bytes) (length bytes) d a (omega (arith, length_rows (length values) count bytes))
