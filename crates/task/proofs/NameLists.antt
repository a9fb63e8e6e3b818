-- Names that lie one after another, each behind its length.
use Rattle.std.proofs.Common.{◌≡◌, ℕ, zero, suc, ◌+◌, ◌-◌, ◌*◌, ◌<◌, ◌≤◌, Bool, true, false, ◌&&◌, eqb, leb, List, [], ◌∷◌, ◌++◌, length, take, drop, Some, None, Option, sym, refl, ap, ◌∙◌, arith, length-append, length-drop}
use Rattle.std.proofs.lemmas.List.{take_at, drop_at, take-append-drop, length-take-le}
use Rattle.std.proofs.lemmas.Bool.{and_parts, leb-true, le-leb, both_ways, ne_eqb, false_from_ne_true}
use Rattle.rows.specs.Rows.{all}
use Rattle.task.specs.Files.{named, begins, printable, name_in}

-- what a move may be named
abbrev pub lawful : List ℕ → Bool
lawful name = (leb 1 (length name) && leb (length name) 40) && all printable name

-- bytes that begin with a whole name
module _ (name after : List ℕ) where
  pub begins_is : begins (length name ∷ (name ++ after)) ≡ lawful name
  begins_is =
      ap (λ t. (leb 1 (length name) && leb (length name) 40) && (t && all printable (take (length name) (name ++ after))))
      (le-leb (length name) (length (name ++ after)) (omega (arith, length-append name after)))
      ∙ ap (λ xs. (leb 1 (length name) && leb (length name) 40) && all printable xs) (take_at name after (length name) refl)

  rest_is : drop (length name) (name ++ after) ≡ after
  rest_is = drop_at name after (length name) refl

  -- one name on
  pub named_more : (m : ℕ) → lawful name ≡ true → named (suc m) (length name ∷ (name ++ after)) ≡ named m after
  named_more m l = ap (λ t. t && named m (drop (length name) (name ++ after))) (begins_is ∙ l) ∙ ap (named m) rest_is

  pub named_stuck : (m : ℕ) → lawful name ≡ false → named (suc m) (length name ∷ (name ++ after)) ≡ false
  named_stuck m l = ap (λ t. t && named m (drop (length name) (name ++ after))) (begins_is ∙ l)

  pub name_more : (at k : ℕ) → name_in at (length name ∷ (name ++ after)) (suc k) ≡ name_in (at + 1 + length name) after k
  name_more at k = ap (λ xs. name_in (at + 1 + length name) xs k) rest_is

  pub name_here : (at : ℕ) → name_in at (length name ∷ (name ++ after)) 0 ≡ Some (name, at + 1)
  name_here at = ap (λ xs. Some (xs, at + 1)) (take_at name after (length name) refl)

  -- of so many names it is the first, and one fewer is left after it
  pub left_more : (m n : ℕ) → named m (length name ∷ (name ++ after)) ≡ true → n ≡ m - 1 → named n after ≡ true
  left_more zero n h e = absurd (both_ways false refl h)
  left_more (suc m) n h e =
      let to : n ≡ m = omega arith in
      ap (λ i. named i after) to ∙ ap (named m) (sym rest_is) ∙ (and_parts (begins (length name ∷ (name ++ after))) (named m (drop (length name) (name ++ after))) h).1

-- bytes with which no whole name begins
abbrev pub NoName : List ℕ → Type 0
NoName bs = (name after : List ℕ) → bs ≡ length name ∷ (name ++ after) → ⊥

begins_not : (bs : List ℕ) → NoName bs → begins bs ≡ false
begins_not [] none = refl
begins_not (n ∷ rest) none = false_from_ne_true (begins (n ∷ rest)) (λ h.
    let p = (and_parts (leb 1 n && leb n 40) (leb n (length rest) && all printable (take n rest)) h).1 in
    let l = leb-true n (length rest) (and_parts (leb n (length rest)) (all printable (take n rest)) p).0 in
    none (take n rest) (drop n rest)
    (ap (λ i. i ∷ rest) (sym (length-take-le n rest l)) ∙ ap (λ xs. length (take n rest) ∷ xs) (sym (take-append-drop n rest))))

pub named_not : (m : ℕ) (bs : List ℕ) → NoName bs → named (suc m) bs ≡ false
named_not m [] none = refl
named_not m (n ∷ rest) none = ap (λ t. t && named m (drop n rest)) (begins_not (n ∷ rest) none)

pub named_end : (bs : List ℕ) → named 0 bs ≡ eqb (length bs) 0
named_end [] = refl
named_end (n ∷ rest) = sym (ne_eqb (suc (length rest)) 0 (λ e. omega arith))

-- of lawful names none are left there
pub name_not : (m at k : ℕ) (bs : List ℕ) → named m bs ≡ true → NoName bs → name_in at bs k ≡ None
name_not m at k [] h none = refl
name_not zero at k (n ∷ rest) h none = absurd (both_ways false refl h)
name_not (suc m) at k (n ∷ rest) h none =
    absurd (both_ways (begins (n ∷ rest)) (begins_not (n ∷ rest) none) (and_parts (begins (n ∷ rest)) (named m (drop n rest)) h).0)

-- each of so many names is there, and printable
pub record HasName (base : ℕ) (bs : List ℕ) (k : ℕ) : Type 0 where
  pub name : List ℕ
  pub at : ℕ
  pub is : name_in base bs k ≡ Some (name, at)
  pub text : all printable name ≡ true

pub named_at : (m k base : ℕ) (bs : List ℕ) → named m bs ≡ true → k < m → HasName base bs k
named_at zero k base bs h l = absurd (omega arith)
named_at (suc m) k base [] h l = absurd (both_ways false refl h)
named_at (suc m) zero base (n ∷ rest) h l =
    let b = (and_parts (begins (n ∷ rest)) (named m (drop n rest)) h).0 in
    let p = (and_parts (leb 1 n && leb n 40) (leb n (length rest) && all printable (take n rest)) b).1 in
    record { name = take n rest; at = base + 1; is = refl; text = (and_parts (leb n (length rest)) (all printable (take n rest)) p).1 }
named_at (suc m) (suc k) base (n ∷ rest) h l =
    let ih = named_at m k (base + 1 + n) (drop n rest) (and_parts (begins (n ∷ rest)) (named m (drop n rest)) h).1 (omega arith) in
    record { name = ih.name; at = ih.at; is = ih.is; text = ih.text }

some_some : (a b : List ℕ) (i j : ℕ) → ◌≡◌ {A = Option (List ℕ × ℕ)} (Some (a, i)) (Some (b, j)) → a ≡ b
some_some a b i j h = let same : ◌≡◌ {A = List ℕ × ℕ} (a, i) (b, j) = cc in ap (λ (p : List ℕ × ℕ). p.0) same

pub name_printable : (m k base : ℕ) (bs name : List ℕ) (at : ℕ) → named m bs ≡ true → k < m → name_in base bs k ≡ Some (name, at) → all printable name ≡ true
name_printable m k base bs name at h l e =
    let n = named_at m k base bs h l in
    ap (all printable) (some_some name n.name at n.at (sym e ∙ n.is)) ∙ n.text

pub name_there : (m k base : ℕ) (bs : List ℕ) → named m bs ≡ true → k < m → name_in base bs k ≡ None → ⊥
name_there m k base bs h l e =
    let n = named_at m k base bs h l in
    let no : ◌≡◌ {A = Option (List ℕ × ℕ)} None (Some (n.name, n.at)) = sym e ∙ n.is in
    let z : ◌≡◌ {A = ℕ} 0 1 = cc no in
    omega arith

-- a name takes at most 41 bytes
pub named_short : (m : ℕ) (bs : List ℕ) → named m bs ≡ true → length bs ≤ m * 41
named_short zero [] h = omega arith
named_short zero (n ∷ rest) h = absurd (both_ways false refl h)
named_short (suc m) [] h = omega arith
named_short (suc m) (n ∷ rest) h =
    let p = and_parts (begins (n ∷ rest)) (named m (drop n rest)) h in
    let q = (and_parts (leb 1 n && leb n 40) (leb n (length rest) && all printable (take n rest)) p.0).0 in
    omega (arith, named_short m (drop n rest) p.1, leb-true n 40 (and_parts (leb 1 n) (leb n 40) q).1, length-drop n rest)
