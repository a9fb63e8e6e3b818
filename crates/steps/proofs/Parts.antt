-- Rows among bytes.
use Rattle.std.proofs.Common.{◌≡◌, ℕ, ◌+◌, ◌-◌, ◌*◌, ◌<◌, ◌≤◌, List, ◌++◌, length, take, drop, sym, ap, ◌∙◌, subst, mul-le-mul_right, add-mul, one-mul, arith, length-drop, length-take-le, take-take, drop_at}
use lib.Seq.{length-paste, take-append-le, length_paste_head, take-paste, take-length}
use Rattle.std.proofs.lemmas.Slice.{between_is}
use Rattle.rows.specs.Rows.{Row}
use Rattle.steps.specs.Memories.{row_at, written}

-- a row is a part of the front that ends with it
row_front : (v : ℕ) (bs : List ℕ) (k : ℕ) → take v (drop k bs) ≡ drop k (take (k + v) bs)
row_front v bs k = let e : (k + v) - k ≡ v = omega arith in subst (λ z. take z (drop k bs) ≡ drop k (take (k + v) bs)) e (between_is bs k (k + v))

take_written : (bs : List ℕ) (at j : ℕ) (r : Row) → j ≤ at → at + length r ≤ length bs → take j (written bs at r) ≡ take j bs
take_written bs at j r h b =
    let hl = length-take-le at bs (omega arith) in
    let hh = length_paste_head bs at r (length r) (omega arith) (omega arith) in
    take-append-le j (take at bs ++ take (length r) r) (drop (at + length r) bs) (omega arith) ∙ take-append-le j (take at bs) (take (length r) r) (omega arith) ∙ take-take j at bs h

-- a row stored above leaves the rows below
pub row_below : (v : ℕ) (bs : List ℕ) (n k : ℕ) (r : Row) → length r ≡ v → n < k → (k + 1) * v ≤ length bs → row_at v (written bs (k * v) r) n ≡ row_at v bs n
row_below v bs n k r e h b =
    let nk : n + 1 ≤ k = omega arith in
    let le : n * v + v ≤ k * v = omega (arith, mul-le-mul_right v nk, add-mul n 1 v, one-mul v) in
    let fit : k * v + length r ≤ length bs = omega (arith, add-mul k 1 v, one-mul v) in
    row_front v (written bs (k * v) r) (n * v) ∙ ap (drop (n * v)) (take_written bs (k * v) (n * v + v) r le fit) ∙ sym (row_front v bs (n * v))

-- the row stored is there
pub row_stored : (v : ℕ) (bs : List ℕ) (k : ℕ) (r : Row) → length r ≡ v → (k + 1) * v ≤ length bs → row_at v (written bs (k * v) r) k ≡ r
row_stored v bs k r e b =
    let fit : k * v + length r ≤ length bs = omega (arith, add-mul k 1 v, one-mul v) in
    row_front v (written bs (k * v) r) (k * v)
    ∙ ap (λ z. drop (k * v) (take (k * v + z) (written bs (k * v) r))) (sym e)
    ∙ ap (drop (k * v)) (take-paste bs (k * v) r (length r) (omega arith) (omega arith))
    ∙ drop_at (take (k * v) bs) (take (length r) r) (k * v) (length-take-le (k * v) bs (omega arith))
    ∙ take-length r

pub length_row : (v : ℕ) (bs : List ℕ) (n : ℕ) → (n + 1) * v ≤ length bs → length (row_at v bs n) ≡ v
length_row v bs n h = length-take-le v (drop (n * v) bs) (simp length-drop (omega (arith, add-mul n 1 v, one-mul v)))

pub length_written : (bs : List ℕ) (n : ℕ) (r : Row) → (n + 1) * length r ≤ length bs → length (written bs (n * length r) r) ≡ length bs
length_written bs n r h = length-paste bs (n * length r) r (length r) (omega (arith, add-mul n 1 (length r), one-mul (length r))) (omega arith)

-- the rows up to number n lie within the space of cap rows
pub row_within : (n cap v w l : ℕ) → v ≡ w → n < cap → cap * w ≤ l → (n + 1) * v ≤ l
row_within n cap v w l e h b =
    let b' : cap * v ≤ l = subst (λ z. cap * z ≤ l) (sym e) b in
    let h' : n + 1 ≤ cap = omega arith in
    omega (arith, mul-le-mul_right v h')
