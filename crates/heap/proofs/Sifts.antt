-- A binary heap as a function from places, under any transitive order.
use Rattle.std.proofs.Common.{◌≡◌, ℕ, zero, suc, ◌-◌, ◌/◌, ◌<◌, ◌≤◌, sym, refl, ap, ◌∙◌, subst, ⊎_elim, arith}
use Rattle.std.proofs.lemmas.List.Edits.{Swapped}
use Rattle.std.proofs.lemmas.Bool.{cases_eq}

abbrev pub up : ℕ → ℕ
up j = (j - 1) / 2

eq_zero : (k : ℕ) → k ≤ 0 → k ≡ 0
eq_zero k h = omega arith

pub up_below : (j : ℕ) → 0 < j → up j < j
up_below j h = omega arith

module _ {E : Type 0} (R : E → E → Type 0) (n : ℕ) where
  -- in order but for place i and the one above it
  pub record UpTo (f : ℕ → E) (i : ℕ) : Type 0 where
    pub others : (j : ℕ) → 0 < j → j < n → (j ≡ i → ⊥) → R (f (up j)) (f j)
    pub below : (j : ℕ) → 0 < j → j < n → up j ≡ i → 0 < i → R (f (up i)) (f j)

  -- in order but for place i and those below it
  pub record DownTo (f : ℕ → E) (i : ℕ) : Type 0 where
    pub others : (j : ℕ) → 0 < j → j < n → (up j ≡ i → ⊥) → R (f (up j)) (f j)
    pub below : (j : ℕ) → 0 < j → j < n → up j ≡ i → 0 < i → R (f (up i)) (f j)

module _ {E : Type 0} (R : E → E → Type 0) (trans : (a b c : E) → R a b → R b c → R a c) (n : ℕ) where
  moved : {a b c d : E} → a ≡ b → c ≡ d → R b d → R a c
  moved {a} {b} {c} {d} p q r = subst (λ (x : E). R x c) (sym p) (subst (λ (y : E). R b y) (sym q) r)

  pub up_step : (f g : ℕ → E) (i : ℕ) → 0 < i → i < n → R (f i) (f (up i)) → Swapped f g i (up i) → UpTo R n f i → UpTo R n g (up i)
  up_step f g i pos lt le sw u =
      let p = up i in
      let pi : p < i = omega arith in
      record {
        others = λ j hj jn ne.
            ⊎_elim
            (λ (e : j ≡ i).
            let e1 : up j ≡ p = ap up e in
            moved (ap g e1 ∙ sw.1) (ap g e ∙ sw.0) le)
            (λ (ni : j ≡ i → ⊥).
            ⊎_elim
            (λ (e : up j ≡ i). moved (ap g e ∙ sw.0) (sw.2 j ni ne) (u.below j hj jn e pos))
            (λ (mi : up j ≡ i → ⊥).
            ⊎_elim
            (λ (e : up j ≡ p). moved (ap g e ∙ sw.1) (sw.2 j ni ne)
            (trans (f i) (f p) (f j) le (subst (λ (k : ℕ). R (f k) (f j)) e (u.others j hj jn ni))))
            (λ (mp : up j ≡ p → ⊥). moved (sw.2 (up j) mi mp) (sw.2 j ni ne) (u.others j hj jn ni))
            (cases_eq (up j) p))
            (cases_eq (up j) i))
            (cases_eq j i);
        below = λ j hj jn e pp.
            let up_p : up p < p = omega arith in
            let ge : g (up p) ≡ f (up p) = sw.2 (up p) (λ e. omega arith) (λ e. omega arith) in
            let pn : p ≡ i → ⊥ = λ e. omega arith in
            let over : R (f (up p)) (f p) = u.others p pp (omega arith) pn in
            ⊎_elim
            (λ (e' : j ≡ i). moved ge (ap g e' ∙ sw.0) over)
            (λ (ni : j ≡ i → ⊥).
            let np : j ≡ p → ⊥ = λ q. omega arith in
            moved ge (sw.2 j ni np) (trans (f (up p)) (f p) (f j) over (subst (λ (k : ℕ). R (f k) (f j)) e (u.others j hj jn ni))))
            (cases_eq j i);
      }

  pub up_done : (f : ℕ → E) (i : ℕ) → UpTo R n f i → (0 < i → R (f (up i)) (f i)) → (j : ℕ) → 0 < j → j < n → R (f (up j)) (f j)
  up_done f i u here j hj jn =
      ⊎_elim
      (λ (e : j ≡ i). moved (ap (λ k. f (up k)) e) (ap f e) (here (omega arith)))
      (λ (ni : j ≡ i → ⊥). u.others j hj jn ni)
      (cases_eq j i)

  pub down_step : (f g : ℕ → E) (i c : ℕ) → 0 < c → c < n → up c ≡ i → R (f c) (f i) → ((s : ℕ) → 0 < s → s < n → up s ≡ i → R (f c) (f s)) → Swapped f g i c → DownTo R n f i → DownTo R n g c
  down_step f g i c pos lt uc le sib sw u =
      let ic : i < c = omega arith in
      record {
        others = λ j hj jn ne.
            ⊎_elim
            (λ (e : j ≡ c). moved (ap (λ k. g (up k)) e ∙ ap g uc ∙ sw.0) (ap g e ∙ sw.1) le)
            (λ (nc : j ≡ c → ⊥).
            ⊎_elim
            (λ (e : up j ≡ i).
            let ni : j ≡ i → ⊥ = λ q. omega arith in
            moved (ap g e ∙ sw.0) (sw.2 j ni nc) (sib j hj jn e))
            (λ (mi : up j ≡ i → ⊥).
            ⊎_elim
            (λ (e : j ≡ i).
            let mi' : up i ≡ i → ⊥ = λ q. omega arith in
            let mc' : up i ≡ c → ⊥ = λ q. omega arith in
            moved (ap (λ k. g (up k)) e ∙ sw.2 (up i) mi' mc') (ap g e ∙ sw.0) (u.below c pos lt uc (omega arith)))
            (λ (ni : j ≡ i → ⊥). moved (sw.2 (up j) mi ne) (sw.2 j ni nc) (u.others j hj jn mi))
            (cases_eq j i))
            (cases_eq (up j) i))
            (cases_eq j c);
        below = λ j hj jn e pc.
            let ni : j ≡ i → ⊥ = λ q. omega arith in
            let nc : j ≡ c → ⊥ = λ q. omega arith in
            let mi : up j ≡ i → ⊥ = λ q. omega arith in
            moved (ap g uc ∙ sw.0) (sw.2 j ni nc) (subst (λ (k : ℕ). R (f k) (f j)) e (u.others j hj jn mi));
      }

  pub down_done : (f : ℕ → E) (i : ℕ) → DownTo R n f i → ((s : ℕ) → 0 < s → s < n → up s ≡ i → R (f i) (f s)) → (j : ℕ) → 0 < j → j < n → R (f (up j)) (f j)
  down_done f i u sib j hj jn =
      ⊎_elim
      (λ (e : up j ≡ i). moved (ap f e) refl (sib j hj jn e))
      (λ (ni : up j ≡ i → ⊥). u.others j hj jn ni)
      (cases_eq (up j) i)

  -- the root comes first; m bounds the place
  root : (f : ℕ → E) → ((x : E) → R x x) → ((j : ℕ) → 0 < j → j < n → R (f (up j)) (f j)) → (m k : ℕ) → k ≤ m → k < n → R (f 0) (f k)
  root f rf h zero k le lt = moved refl (ap f (eq_zero k le)) (rf (f 0))
  root f rf h (suc m) k le lt =
      ⊎_elim
      (λ (e : k ≡ 0). moved refl (ap f e) (rf (f 0)))
      (λ (ne : k ≡ 0 → ⊥).
      let pos : 0 < k = omega arith in
      let below : up k < k = up_below k pos in
      trans (f 0) (f (up k)) (f k) (root f rf h m (up k) (omega arith) (omega arith)) (h k pos lt))
      (cases_eq k 0)

  pub root_first : (f : ℕ → E) → ((x : E) → R x x) → ((j : ℕ) → 0 < j → j < n → R (f (up j)) (f j)) → (k : ℕ) → k < n → R (f 0) (f k)
  root_first f rf h k lt = root f rf h k k (omega arith) lt
