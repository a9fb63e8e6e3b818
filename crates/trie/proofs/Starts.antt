-- A trie over no cells has no space.
use Rattle.std.proofs.Common.{◌≡◌, ℕ, ◌/◌, min, Bool, true, false, cond, List, length, refl, ap, arith}
use native.Mathlib.Nat.{zero-div}
use Rattle.rows.specs.Rows.{usable}
use Rattle.store.specs.Stores.{space_of}

none_fits : (b : Bool) (w n : ℕ) → n ≡ 0 → cond b (min 65535 (n / w)) 0 ≡ 0
none_fits true w n e = omega (arith, ap (λ x. x / w) e, zero-div w)
none_fits false w n e = refl

pub space_none : (values : List ℕ) (n : ℕ) → n ≡ 0 → space_of values n ≡ 0
space_none values n e = none_fits (usable values) (length values) n e
