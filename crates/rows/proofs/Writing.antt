-- A row that is written byte by byte into the front of a buffer.
use Rattle.std.proofs.Common.{◌≡◌, ℕ, ◌+◌, ◌<◌, ◌≤◌, List, [], ◌∷◌, ◌++◌, map, length, get_or, take, drop, sym, ap, ◌∙◌, append_assoc, arith}
use Rattle.std.specs.List.{enumerate_from}
use Rattle.std.proofs.Math.ListN.{set}
use Rattle.std.proofs.Math.Seq.{set-append_seam}
use Rattle.std.proofs.lemmas.List.{drop_more, take_more, take_all, length-take-le, length-map, get_or-map}
use Rattle.std.proofs.lemmas.List.FromFn.{length-enumerate_from, get_or-enumerate_from}
use Rattle.rows.specs.Calls.{over}

-- the next byte, behind those that are written
over_next : (row old : List ℕ) (n : ℕ) → n < length row → length row ≤ length old
    → set (over (take n row) old) n (get_or row n 0) ≡ over (take (n + 1) row) old
over_next row old n h l =
    let long : length (take n row) ≡ n = length-take-le n row (omega arith) in
    let more : take (n + 1) row ≡ take n row ++ (get_or row n 0 ∷ []) = take_more row n 0 h in
    let len : length (take (n + 1) row) ≡ n + 1 = length-take-le (n + 1) row (omega arith) in
    let front = take n row in
    let b = get_or row n 0 in
    ap (λ r. set (front ++ r) n b) (ap (λ i. drop i old) long ∙ drop_more old n 0 (omega arith))
    ∙ ap (λ i. set (front ++ (get_or old n 0 ∷ drop (n + 1) old)) i b) (sym long)
    ∙ set-append_seam front (get_or old n 0) (drop (n + 1) old) b
    ∙ sym (append_assoc front (b ∷ []) (drop (n + 1) old))
    ∙ ap (λ r. r ++ drop (n + 1) old) (sym more)
    ∙ ap (λ i. take (n + 1) row ++ drop i old) (sym len)

-- a row whose bytes are computed from what stands at each place: one place more, and all of them
module _ {A : Type 0} (f : A → ℕ) (places : List A) (old : List ℕ) where
  pub written_more : (row out : List ℕ) (n m v b : ℕ) (p : A) → m ≡ n + 1 → map f places ≡ row → length row ≤ length old → b ≡ f p
      → (n < length (enumerate_from 0 places)) × ((v, p) ≡ get_or (enumerate_from 0 places) n (v, p))
      → out ≡ over (take n row) old → set out v b ≡ over (take m row) old
  written_more row out n m v b p to e l d t h =
      let k : n < length places = omega (arith, t.0, length-enumerate_from 0 places) in
      let same : (v, p) ≡ (n, get_or places n p) = t.1 ∙ get_or-enumerate_from 0 places n (v, p) k ∙ ap (λ i. (i, get_or places n p)) (omega arith) in
      let there : v ≡ n = ap (λ (q : ℕ × A). q.0) same in
      let is : b ≡ get_or row n 0
      = d ∙ ap (λ (q : ℕ × A). f q.1) same ∙ sym (get_or-map f places n p 0 k) ∙ ap (λ xs. get_or xs n 0) e in
      rw (h, there, is, to) (over_next row old n (omega (arith, k, length-map places f, ap length e)) l)

  pub written_all : (row out : List ℕ) (n : ℕ) → map f places ≡ row → n ≡ length (enumerate_from 0 places) → out ≡ over (take n row) old → out ≡ over row old
  written_all row out n e k h =
      h ∙ ap (λ r. over r old) (take_all n row (omega (arith, k, length-enumerate_from 0 places, length-map places f, ap length e)))
