-- Distinct rows that fit are no more than the product over the variables of values + 1.
use Rattle.std.proofs.Common.{◌≡◌, ℕ, ◌+◌, ◌*◌, ◌/◌, ◌%◌, ◌<◌, ◌≤◌, true, false, cond, List, [], ◌∷◌, map, length, sym, refl, ap, ◌∙◌, subst, inl, inr, mul_comm, mul-le-mul_left, mul-add, arith}
use lib.Arith.{digits_mod, digits_div}
use Rattle.std.proofs.lemmas.Bool.{and_parts, both_ways}
use Rattle.std.proofs.lemmas.Bool.Decides.{nat_tests}
use Rattle.rows.specs.Rows.{Row, fixed, fits_at, fits}
use Rattle.planning.specs.Lists.{In, Distinct}
use Rattle.planning.specs.Regressions.{row_count}
use Rattle.planning.proofs.Lists.{numbers_few}

-- a row as a number: the mark counts as the number of values
abbrev digit : ℕ → ℕ → ℕ
digit n b = cond (fixed b) b n

abbrev code : List ℕ → Row → ℕ
code [] r = 0
code (n ∷ vs) [] = 0
code (n ∷ vs) (b ∷ r) = digit n b + (n + 1) * code vs r

digit_below : (n b : ℕ) → fits_at n b ≡ true → digit n b ≤ n
digit_below n b p = grind (arith, nat_tests)

digit_same : (n b c : ℕ) → fits_at n b ≡ true → fits_at n c ≡ true → digit n b ≡ digit n c → b ≡ c
digit_same n b c p q e = grind (arith, nat_tests)

code_below : (vs : List ℕ) (r : Row) → fits vs r ≡ true → code vs r < row_count vs
code_below [] r f = omega arith
code_below (n ∷ vs) [] f = absurd (both_ways false refl f)
code_below (n ∷ vs) (b ∷ r) f =
    let h = and_parts (fits_at n b) (fits vs r) f in
    let k : code vs r + 1 ≤ row_count vs = let z = code_below vs r h.1 in omega arith in
    let d = digit_below n b h.0 in
    omega (arith, mul-le-mul_left (n + 1) k, mul-add (n + 1) (code vs r) 1)

split : (n d e c f : ℕ) → d ≤ n → e ≤ n → d + (n + 1) * c ≡ e + (n + 1) * f → (d ≡ e) × (c ≡ f)
split n d e c f hd he q =
    let q' : c * (n + 1) + d ≡ f * (n + 1) + e = omega (arith, mul_comm (n + 1) c, mul_comm (n + 1) f) in
    let ld : d < n + 1 = omega arith in
    let le : e < n + 1 = omega arith in
    (sym (digits_mod c ld) ∙ ap (λ z. z % (n + 1)) q' ∙ digits_mod f le, sym (digits_div c ld) ∙ ap (λ z. z / (n + 1)) q' ∙ digits_div f le)

code_same : (vs : List ℕ) (r s : Row) → fits vs r ≡ true → fits vs s ≡ true → code vs r ≡ code vs s → r ≡ s
code_same [] [] [] f g e = refl
code_same [] [] (c ∷ s) f g e = absurd (both_ways false refl g)
code_same [] (b ∷ r) s f g e = absurd (both_ways false refl f)
code_same (n ∷ vs) [] s f g e = absurd (both_ways false refl f)
code_same (n ∷ vs) (b ∷ r) [] f g e = absurd (both_ways false refl g)
code_same (n ∷ vs) (b ∷ r) (c ∷ s) f g e =
    let h = and_parts (fits_at n b) (fits vs r) f in
    let k = and_parts (fits_at n c) (fits vs s) g in
    let d = split n (digit n b) (digit n c) (code vs r) (code vs s) (digit_below n b h.0) (digit_below n c k.0) e in
    let hb : b ≡ c = digit_same n b c h.0 k.0 d.0 in
    let hr : r ≡ s = code_same vs r s h.1 k.1 d.1 in
    ap (λ z. z ∷ r) hb ∙ ap (λ z. c ∷ z) hr

in_codes : (vs : List ℕ) (y : ℕ) (rs : List Row) → In y (map (code vs) rs) → (r : Row) × In r rs × (y ≡ code vs r)
in_codes vs y [] m = absurd m
in_codes vs y (r ∷ rs) (inl e) = (r, inl refl, e)
in_codes vs y (r ∷ rs) (inr k) = let h = in_codes vs y rs k in (h.0, inr h.1, h.2)

codes_distinct : (vs : List ℕ) (rs : List Row) → Distinct rs → ((r : Row) → In r rs → fits vs r ≡ true) → Distinct (map (code vs) rs)
codes_distinct vs [] d f = tt
codes_distinct vs (r ∷ rs) d f = (
  λ m. let h = in_codes vs (code vs r) rs m in d.0 (subst (λ z. In z rs) (sym (code_same vs r h.0 (f r (inl refl)) (f h.0 (inr h.1)) h.2)) h.1),
  codes_distinct vs rs d.1 (λ q m. f q (inr m)),
)

codes_length : (vs : List ℕ) (rs : List Row) → length (map (code vs) rs) ≡ length rs
codes_length vs [] = refl
codes_length vs (r ∷ rs) = let h = codes_length vs rs in omega arith

pub rows_few : (vs : List ℕ) (rs : List Row) → Distinct rs → ((r : Row) → In r rs → fits vs r ≡ true) → length rs ≤ row_count vs
rows_few vs rs d f =
    omega (arith, codes_length vs rs, numbers_few (row_count vs) (map (code vs) rs) (codes_distinct vs rs d f) (λ y m. let h = in_codes vs y rs m in subst (λ z. z < row_count vs) (sym h.2) (code_below vs h.0 (f h.0 h.1))))
