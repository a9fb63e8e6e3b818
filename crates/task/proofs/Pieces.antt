-- A buffer that is written piece after piece: the pieces so far over what it held.
use Rattle.std.proofs.Common.{◌≡◌, ℕ, ◌+◌, ◌≤◌, List, [], ◌∷◌, ◌++◌, length, take, drop, sym, refl, ap, ◌∙◌, append_assoc, arith, length-append}
use borrow.Rule.Slice.PartMut.{put_mid}
use Rattle.std.proofs.lemmas.List.{drop-drop, length-take-le, take_at, drop_at, take-append-drop}
use Rattle.rows.specs.Calls.{over}
use Rattle.task.specs.Layouts.{entry, entries}

-- one write of a part, as a longer front
pub over_part : (at k : ℕ) (old piece new : List ℕ) → k ≡ length piece → new ≡ piece → at ≤ length old
    → put_mid at k old new ≡ over (take at old ++ piece) old
over_part at k old piece new e f l =
    let n : length (take at old ++ piece) ≡ at + k
    = length-append (take at old) piece ∙ ap (λ i. i + length piece) (length-take-le at old l) ∙ ap (λ i. at + i) (sym e) in
    ap (λ p. take at old ++ (p ++ drop k (drop at old))) f
    ∙ sym (append_assoc (take at old) piece (drop k (drop at old)))
    ∙ ap (λ r. (take at old ++ piece) ++ r) (drop-drop k at old ∙ ap (λ i. drop i old) (sym n))

drop_further : (done piece rest : List ℕ) → drop (length (done ++ piece)) (done ++ rest) ≡ drop (length piece) rest
drop_further done piece rest =
    ap (λ n. drop n (done ++ rest)) (length-append done piece)
    ∙ sym (drop-drop (length piece) (length done) (done ++ rest))
    ∙ ap (drop (length piece)) (drop_at done rest (length done) refl)

-- one piece more behind those that are there
pub over_more : (done piece old buffer : List ℕ) (at : ℕ) → at ≡ length done → buffer ≡ over done old
    → over (take at buffer ++ piece) buffer ≡ over (done ++ piece) old
over_more done piece old buffer at a e =
    let front : take at buffer ≡ done = ap (take at) e ∙ take_at done (drop (length done) old) at (sym a) in
    let rest : drop (length (done ++ piece)) buffer ≡ drop (length (done ++ piece)) old
    = ap (drop (length (done ++ piece))) e ∙ drop_further done piece (drop (length done) old)
    ∙ drop-drop (length piece) (length done) old ∙ ap (λ n. drop n old) (sym (length-append done piece)) in
    ap (λ d. over (d ++ piece) buffer) front ∙ ap (λ r. (done ++ piece) ++ r) rest

-- the pieces so far, which end at a place, over what the buffer held
pub record Done (at : ℕ) (done old buffer : List ℕ) : Type 0 where
  pub long : at ≡ length done
  pub is : buffer ≡ over done old

pub next : {at to : ℕ} {done old buffer after : List ℕ} (piece : List ℕ) → Done at done old buffer → to ≡ at + length piece
    → after ≡ over (take at buffer ++ piece) buffer → Done to (done ++ piece) old after
next {at} {to} {done} {old} {buffer} {after} piece d e h = record {
  long = omega (arith, e, d.long, length-append done piece);
  is = h ∙ over_more done piece old buffer at d.long d.is;
}

pub from : (at : ℕ) (old : List ℕ) → at ≤ length old → Done at (take at old) old old
from at old l =
    let n = length-take-le at old l in
    record { long = sym n; is = sym (take-append-drop at old) ∙ ap (λ i. take at old ++ drop i old) (sym n) }

-- five entries, each of a body that begins where the one before it ends
pub five_entries : (v s g m n a b d e : ℕ) → a ≡ 40 + v → b ≡ a + s → d ≡ b + g → e ≡ d + m
    → [] ++ entry 40 v ++ entry a s ++ entry b g ++ entry d m ++ entry e n ≡ entries 40 (v ∷ s ∷ g ∷ m ∷ n ∷ [])
five_entries v s g m n a b d e p q r t = rw (t, r, q, p) refl
