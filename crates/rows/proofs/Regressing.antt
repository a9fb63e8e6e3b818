-- Whether a row is regressed over a move, one variable on.
use Rattle.std.proofs.Common.{◌≡◌, ℕ, ◌+◌, ◌<◌, ◌≤◌, Bool, true, false, not, ◌&&◌, ◌||◌, List, [], ◌∷◌, length, get_or, drop, min, refl, sym, ap, ◌∙◌, arith, length-drop}
use Rattle.std.specs.List.{zip}
use Rattle.std.proofs.lemmas.List.{drop_more}
use Rattle.std.proofs.lemmas.Bool.{and_right}
use Rattle.std.proofs.lemmas.Slice.Zip.{length-zip, get_or-zip}
use Rattle.rows.specs.Rows.{hits, hits_at, clear, clashes}

-- the variables left decide, with what was hit before
abbrev pub left : Bool → List ℕ → List ℕ → List ℕ → Bool
left hit g c e = (hit || hits g e) && clear g c e

or_assoc : (h a r : Bool) → (h || (a || r)) ≡ ((h || a) || r)
or_assoc true a r = refl
or_assoc false a r = refl

one : (hit : Bool) (b y x : ℕ) (g c e : List ℕ) → not (clashes b y x) ≡ true → left hit (b ∷ g) (y ∷ c) (x ∷ e) ≡ left (hit || hits_at b x) g c e
one hit b y x g c e h = rw (h, or_assoc hit (hits_at b x) (hits g e))

none : (hit : Bool) (b y x : ℕ) (g c e : List ℕ) → not (clashes b y x) ≡ false → left hit (b ∷ g) (y ∷ c) (x ∷ e) ≡ false
none hit b y x g c e h = and_right (hit || hits (b ∷ g) (x ∷ e)) (not (clashes b y x) && clear g c e) (rw h refl)

left_all : (hit : Bool) → ((hit || false) && true) ≡ hit
left_all true = refl
left_all false = refl

left_done : (hit : Bool) (g c e : List ℕ) → min (length g) (length e) ≡ 0 → left hit g c e ≡ hit
left_done hit [] c e h = left_all hit
left_done hit (b ∷ g) [] [] h = left_all hit
left_done hit (b ∷ g) (y ∷ c) [] h = left_all hit
left_done hit (b ∷ g) c (x ∷ e) h = absurd (omega arith)

module _ (g c e : List ℕ) where
  -- what stands at the next place
  abbrev pub At : ℕ → ℕ → ℕ → ℕ → Type 0
  At n b y x = (n < length (zip (zip g c) e)) × (((b, y), x) ≡ get_or (zip (zip g c) e) n ((b, y), x))

  opened : (hit : Bool) (n b y x : ℕ) → At n b y x → left hit (drop n g) (drop n c) (drop n e) ≡ left hit (b ∷ drop (n + 1) g) (y ∷ drop (n + 1) c) (x ∷ drop (n + 1) e)
  opened hit n b y x t =
      let in_g : n < length g = omega (arith, t.0, length-zip (zip g c) e, length-zip g c) in
      let in_c : n < length c = omega (arith, t.0, length-zip (zip g c) e, length-zip g c) in
      let in_e : n < length e = omega (arith, t.0, length-zip (zip g c) e) in
      let same : ((b, y), x) ≡ ((get_or g n b, get_or c n y), get_or e n x)
      = t.1 ∙ get_or-zip (zip g c) e n ((b, y), x) (omega (arith, in_g, in_c, length-zip g c)) in_e ∙ ap (λ p. (p, get_or e n x)) (get_or-zip g c n (b, y) in_g in_c) in
      rw (drop_more g n b in_g, drop_more c n y in_c, drop_more e n x in_e)
      (ap (λ (q : (ℕ × ℕ) × ℕ). left hit (q.0.0 ∷ drop (n + 1) g) (q.0.1 ∷ drop (n + 1) c) (q.1 ∷ drop (n + 1) e)) (sym same))

  pub left_more : (hit : Bool) (n b y x : ℕ) → At n b y x → not (clashes b y x) ≡ true
      → left hit (drop n g) (drop n c) (drop n e) ≡ left (hit || hits_at b x) (drop (n + 1) g) (drop (n + 1) c) (drop (n + 1) e)
  left_more hit n b y x t h = opened hit n b y x t ∙ one hit b y x (drop (n + 1) g) (drop (n + 1) c) (drop (n + 1) e) h

  pub left_none : (hit : Bool) (n b y x : ℕ) → At n b y x → not (clashes b y x) ≡ false → left hit (drop n g) (drop n c) (drop n e) ≡ false
  left_none hit n b y x t h = opened hit n b y x t ∙ none hit b y x (drop (n + 1) g) (drop (n + 1) c) (drop (n + 1) e) h

  pub left_end : (hit : Bool) (n : ℕ) → length g ≤ length c → n ≡ length (zip (zip g c) e) → left hit (drop n g) (drop n c) (drop n e) ≡ hit
  left_end hit n l h = left_done hit (drop n g) (drop n c) (drop n e) (omega (arith, h, l, length-zip (zip g c) e, length-zip g c, length-drop n g, length-drop n e))
