-- An accepted file is the layout of its bodies, byte for byte.
use Rattle.std.proofs.Common.{◌≡◌, ℕ, ◌+◌, ◌*◌, ◌/◌, ◌%◌, ◌<◌, ◌≤◌, List, [], ◌∷◌, ◌++◌, length, get_or, drop, Ok, Err, Result, sym, refl, ap, ◌∙◌, mod-eq_of_lt, arith, w8, Fits}
use native.Mathlib.Nat.{div-div-eq-div-mul}
use Rattle.std.proofs.lemmas.Nat.{div-mul-add, mod-mul-add}
use Rattle.std.proofs.lemmas.List.{drop_more}
use Rattle.task.specs.declared.faults.Fault.{Fault}
use Rattle.task.specs.declared.accepted.Accepted.{Accepted}
use Rattle.task.specs.Answers.{held}
use Rattle.task.specs.Laws.{Reads}
use Rattle.task.specs.Files.{Bodies, word, place, size}
use Rattle.task.specs.Layouts.{coded, parts, layout, Restores}
use Rattle.task.proofs.Acceptings.{laid_out}

-- four bytes back from the number that they write
cons_four : (a b c d a' b' c' d' : ℕ) → a ≡ a' → b ≡ b' → c ≡ c' → d ≡ d' → ◌≡◌ {A = List ℕ} (a ∷ b ∷ c ∷ d ∷ []) (a' ∷ b' ∷ c' ∷ d' ∷ [])
cons_four a b c d a' b' c' d' e f g h = cc

four : (a b c d : ℕ) → a < 256 → b < 256 → c < 256 → d < 256 → coded (a + b * 256 + c * 65536 + d * 16777216) ≡ a ∷ b ∷ c ∷ d ∷ []
four a b c d ha hb hc hd =
    let n = a + b * 256 + c * 65536 + d * 16777216 in
    let x : n ≡ (b + c * 256 + d * 65536) * 256 + a = omega arith in
    let y : b + c * 256 + d * 65536 ≡ (c + d * 256) * 256 + b = omega arith in
    let z : c + d * 256 ≡ d * 256 + c = omega arith in
    let n1 : n / 256 ≡ b + c * 256 + d * 65536 = ap (λ i. i / 256) x ∙ div-mul-add (b + c * 256 + d * 65536) 256 a ha in
    let n2 : n / 65536 ≡ c + d * 256
    = sym (div-div-eq-div-mul n 256 256) ∙ ap (λ i. i / 256) (n1 ∙ y) ∙ div-mul-add (c + d * 256) 256 b hb in
    let n3 : n / 16777216 ≡ d = sym (div-div-eq-div-mul n 65536 256) ∙ ap (λ i. i / 256) (n2 ∙ z) ∙ div-mul-add d 256 c hc in
    cons_four (n % 256) (n / 256 % 256) (n / 65536 % 256) (n / 16777216 % 256) a b c d
    (ap (λ i. i % 256) x ∙ mod-mul-add (b + c * 256 + d * 65536) 256 a ha)
    (ap (λ i. i % 256) (n1 ∙ y) ∙ mod-mul-add (c + d * 256) 256 b hb)
    (ap (λ i. i % 256) (n2 ∙ z) ∙ mod-mul-add d 256 c hc)
    (ap (λ i. i % 256) n3 ∙ mod-eq_of_lt hd)

module _ (file : List ℕ) (bytes : (i : ℕ) → Fits w8 (get_or file i 0)) where
  -- the next four bytes are those of the number that stands there
  next : (at : ℕ) → at + 4 ≤ length file → drop at file ≡ coded (word file at) ++ drop (at + 4) file
  next at l =
      let b = λ (i : ℕ). get_or file i 0 in
      let d1 : drop at file ≡ b at ∷ drop (at + 1) file = drop_more file at 0 (omega arith) in
      let d2 : drop (at + 1) file ≡ b (at + 1) ∷ drop (at + 2) file = drop_more file (at + 1) 0 (omega arith) ∙ ap (λ i. b (at + 1) ∷ drop i file) (omega arith) in
      let d3 : drop (at + 2) file ≡ b (at + 2) ∷ drop (at + 3) file = drop_more file (at + 2) 0 (omega arith) ∙ ap (λ i. b (at + 2) ∷ drop i file) (omega arith) in
      let d4 : drop (at + 3) file ≡ b (at + 3) ∷ drop (at + 4) file = drop_more file (at + 3) 0 (omega arith) ∙ ap (λ i. b (at + 3) ∷ drop i file) (omega arith) in
      let w = four (b at) (b (at + 1)) (b (at + 2)) (b (at + 3)) (bytes at).fits (bytes (at + 1)).fits (bytes (at + 2)).fits (bytes (at + 3)).fits in
      d1 ∙ ap (λ r. b at ∷ r) (d2 ∙ ap (λ r. b (at + 1) ∷ r) (d3 ∙ ap (λ r. b (at + 2) ∷ r) d4))
      ∙ ap (λ f. f ++ drop (at + 4) file) (sym w)

-- ten numbers and what follows them
ten : ℕ → ℕ → ℕ → ℕ → ℕ → ℕ → ℕ → ℕ → ℕ → ℕ → List ℕ → List ℕ
ten a b c d e f g h i j rest =
    coded a ++ (coded b ++ (coded c ++ (coded d ++ (coded e ++ (coded f ++ (coded g ++ (coded h ++ (coded i ++ (coded j ++ rest)))))))))

module _ (file : List ℕ) (bytes : (i : ℕ) → Fits w8 (get_or file i 0)) (l : 40 ≤ length file) where
  file_is : file ≡ ten (place file 0) (size file 0) (place file 1) (size file 1) (place file 2) (size file 2) (place file 3) (size file 3) (place file 4) (size file 4) (drop 40 file)
  unfolding ten
  file_is =
      next file bytes 0 (omega arith)
      ∙ ap (λ r. coded (word file 0) ++ r) (next file bytes 4 (omega arith)
      ∙ ap (λ r. coded (word file 4) ++ r) (next file bytes 8 (omega arith)
      ∙ ap (λ r. coded (word file 8) ++ r) (next file bytes 12 (omega arith)
      ∙ ap (λ r. coded (word file 12) ++ r) (next file bytes 16 (omega arith)
      ∙ ap (λ r. coded (word file 16) ++ r) (next file bytes 20 (omega arith)
      ∙ ap (λ r. coded (word file 20) ++ r) (next file bytes 24 (omega arith)
      ∙ ap (λ r. coded (word file 24) ++ r) (next file bytes 28 (omega arith)
      ∙ ap (λ r. coded (word file 28) ++ r) (next file bytes 32 (omega arith)
      ∙ ap (λ r. coded (word file 32) ++ r) (next file bytes 36 (omega arith))))))))))

layout_is : (b : Bodies) → ten 40 (length b.values) (40 + length b.values) (length b.start) (40 + length b.values + length b.start) (length b.goal)
    (40 + length b.values + length b.start + length b.goal) (length b.moves) (40 + length b.values + length b.start + length b.goal + length b.moves) (length b.names) (parts b)
    ≡ layout b
unfolding ten
layout_is b = refl

same_ten : (a b c d e f g h i j a' b' c' d' e' f' g' h' i' j' : ℕ) (r r' : List ℕ) → a ≡ a' → b ≡ b' → c ≡ c' → d ≡ d' → e ≡ e' → f ≡ f' → g ≡ g' → h ≡ h' → i ≡ i' → j ≡ j' → r ≡ r'
    → ten a b c d e f g h i j r ≡ ten a' b' c' d' e' f' g' h' i' j' r'
same_ten a b c d e f g h i j a' b' c' d' e' f' g' h' i' j' r r' p0 p1 p2 p3 p4 p5 p6 p7 p8 p9 p10 = cc

pub restores : (file : List ℕ) (bytes : (i : ℕ) → Fits w8 (get_or file i 0)) (r : Result Accepted Fault) → Reads file r → Restores file r
restores file bytes (Err e) h = tt
restores file bytes (Ok a) h =
    let b = held a.task in
    let s = (laid_out file b h).0 in
    sym (file_is file bytes s.long
    ∙ same_ten _ _ _ _ _ _ _ _ _ _ _ _ _ _ _ _ _ _ _ _ _ _ s.values.0 s.values.1 s.start.0 s.start.1 s.goal.0 s.goal.1 s.moves.0 s.moves.1 s.names.0 s.names.1 s.parts
    ∙ layout_is b)
