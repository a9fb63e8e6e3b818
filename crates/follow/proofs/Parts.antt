-- Rows among bytes.
use Rattle.std.proofs.Common.{◌≡◌, ℕ, ◌+◌, ◌*◌, ◌<◌, ◌≤◌, List, length, mul-le-mul_right, add-mul, one-mul, arith}
use lib.Seq.{length-paste}
use Rattle.rows.specs.Rows.{Row}
use Rattle.steps.specs.Memories.{written}

-- the rows up to number n lie within the space of cap rows
pub row_within : (n cap v l : ℕ) → n < cap → cap * v ≤ l → (n + 1) * v ≤ l
row_within n cap v l h b = let h' : n + 1 ≤ cap = omega arith in omega (arith, mul-le-mul_right v h')

pub written_length : (v : ℕ) (bs : List ℕ) (k : ℕ) (r : Row) → length r ≡ v → (k + 1) * v ≤ length bs → length (written bs (k * v) r) ≡ length bs
written_length v bs k r e b = length-paste bs (k * v) r (length r) (omega (arith, add-mul k 1 v, one-mul v)) (omega arith)
