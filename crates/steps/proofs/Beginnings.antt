-- New tables, and how node 0 is stored in them.
use Rattle.std.proofs.Common.{◌≡◌, ℕ, ◌*◌, ◌/◌, ◌<◌, ◌≤◌, Bool, true, false, List, length, Decides, MatchBool, sym, refl, ◌∙◌, subst, mul-le-mul_right, zero-mul, div-mul-le_self, arith}
use Rattle.std.proofs.lemmas.Bool.{both_ways}
use Rattle.rows.specs.Rows.{Row}
use Rattle.rows.specs.Tasks.{Task}
use Rattle.steps.specs.Memories.{Memory, written}
use Rattle.steps.specs.Begins.{New}
use Rattle.steps.proofs.Leasts.{no_more}

pub new_when : {K : Type 0} (b : Bool) (task : Task) (s : Memory K) (v : List ℕ) → length s.kept ≡ 0 → length s.waiting ≡ 0 → v ≡ s.table
    → Decides b (v ≡ task.values) → MatchBool b (New task s) (New task s → ⊥)
new_when true task s v k w e d = record { kept = no_more s.kept k; waiting = no_more s.waiting w; table = sym e ∙ d.0 refl }
new_when false task s v k w e d = λ n. both_ways false refl (d.1 (e ∙ n.table))

-- bytes that hold a row hold one
pub one_row : (w l : ℕ) → 0 < l / w → w ≤ l
one_row w l h =
    let le : 1 * w ≤ l / w * w = mul-le-mul_right w h in
    omega (arith, le, div-mul-le_self l w)

pub at_front : (after bs : List ℕ) (r : Row) → after ≡ written bs (0 * length r) r → after ≡ written bs 0 r
at_front after bs r h = subst (λ z. after ≡ written bs z r) (zero-mul (length r)) h
