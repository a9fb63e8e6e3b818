-- The arithmetics of the three kinds of cost.
use Rattle.std.specs.Prelude.{◌≡◌, ℕ, ◌+◌, ◌<◌, ◌≤◌, max, Bool, false, ◌&&◌, ◌||◌, ◌⊎◌, ◌==◌, nat_lt}
use Rattle.std.proofs.Common.{inl, inr, ⊎_elim, arith}
use Rattle.std.proofs.lemmas.Bool.{le-ltb, ltb-false, cases_lt, or_from, or_parts, and_cases, and_left, and_right, ne_eqb, eqb-false}
use Rattle.cost.specs.Costs.{Arithmetic}

-- numbers by size: of two, one is not the larger
pub less_total : (x y : ℕ) → (nat_lt y x ≡ false) ⊎ (nat_lt x y ≡ false)
less_total x y = ⊎_elim (λ h. inl (le-ltb y x (omega arith))) (λ h. inr (le-ltb x y h)) (cases_lt x y)

pub less_transitive : (x y z : ℕ) → nat_lt y x ≡ false → nat_lt z y ≡ false → nat_lt z x ≡ false
less_transitive x y z p q = le-ltb z x (omega (arith, ltb-false y x p, ltb-false z y q))

-- Spend: the sum of the prices
abbrev pub spend : Arithmetic
spend = record {
  Value = ℕ;
  nothing = 0;
  priced = λ p. p;
  joined = ◌+◌;
  before = nat_lt;
  total = less_total;
  transitive = less_transitive;
  kept_by_join = λ f x y p. le-ltb (f + y) (f + x) (omega (arith, ltb-false y x p));
  never_before_rest = λ f x. le-ltb (f + x) x (omega arith);
}

-- Peak: the largest price, 0 for nothing
abbrev pub peak : Arithmetic
peak = record {
  Value = ℕ;
  nothing = 0;
  priced = λ p. p;
  joined = max;
  before = nat_lt;
  total = less_total;
  transitive = less_transitive;
  kept_by_join = λ f x y p. le-ltb (max f y) (max f x) (omega (arith, ltb-false y x p));
  never_before_rest = λ f x. le-ltb (max f x) x (omega arith);
}

-- a sum of prices, and how many they are
pub record Tally : Type 0 where
  pub sum : ℕ
  pub count : ℕ

abbrev pub tally : ℕ → ℕ → Tally
tally s n = record { sum = s; count = n }

-- the lower sum comes before, and of equal sums the lower count
abbrev pub tally_before : Tally → Tally → Bool
tally_before x y = nat_lt x.sum y.sum || (x.sum == y.sum && nat_lt x.count y.count)

-- the same as two facts on numbers
pub tally_from : (x y : Tally) → x.sum ≤ y.sum → (y.sum ≤ x.sum → x.count ≤ y.count) → tally_before y x ≡ false
tally_from x y p q =
    or_from (nat_lt y.sum x.sum) _ (le-ltb y.sum x.sum p)
    (⊎_elim
    (λ (h : x.sum < y.sum). and_left (y.sum == x.sum) _ (ne_eqb y.sum x.sum (λ e. omega arith)))
    (λ (h : y.sum ≤ x.sum). and_right (y.sum == x.sum) _ (le-ltb y.count x.count (q h)))
    (cases_lt x.sum y.sum))

pub tally_parts : (x y : Tally) → tally_before y x ≡ false → (x.sum ≤ y.sum) × (y.sum ≤ x.sum → x.count ≤ y.count)
tally_parts x y h =
    let parts = or_parts (nat_lt y.sum x.sum) (y.sum == x.sum && nat_lt y.count x.count) h in
    let le : x.sum ≤ y.sum = ltb-false y.sum x.sum parts.0 in (
      le,
      λ ge.
          ⊎_elim
          (λ e. absurd (eqb-false y.sum x.sum e (omega arith)))
          (λ l. ltb-false y.count x.count l)
          (and_cases (y.sum == x.sum) (nat_lt y.count x.count) parts.1),
    )

pub tally_total : (x y : Tally) → (tally_before y x ≡ false) ⊎ (tally_before x y ≡ false)
tally_total x y =
    ⊎_elim
    (λ (h : x.sum < y.sum). inl (tally_from x y (omega arith) (λ g. omega arith)))
    (λ (h : y.sum ≤ x.sum).
    ⊎_elim
    (λ (k : y.sum < x.sum). inr (tally_from y x h (λ g. omega arith)))
    (λ (k : x.sum ≤ y.sum).
    ⊎_elim
    (λ (l : x.count < y.count). inl (tally_from x y k (λ g. omega arith)))
    (λ (l : y.count ≤ x.count). inr (tally_from y x h (λ g. l)))
    (cases_lt x.count y.count))
    (cases_lt y.sum x.sum))
    (cases_lt x.sum y.sum)

pub tally_transitive : (x y z : Tally) → tally_before y x ≡ false → tally_before z y ≡ false → tally_before z x ≡ false
tally_transitive x y z p q =
    let a = tally_parts x y p in
    let b = tally_parts y z q in
    tally_from x z (omega (arith, a.0, b.0)) (λ g. omega (arith, a.1 (omega (arith, b.0)), b.1 (omega (arith, a.0))))

-- Spend, then moves: the sum of the prices; of equal sums, fewer moves come before
abbrev pub spend_then_moves : Arithmetic
spend_then_moves = record {
  Value = Tally;
  nothing = tally 0 0;
  priced = λ p. tally p 1;
  joined = λ f x. tally (f.sum + x.sum) (f.count + x.count);
  before = tally_before;
  total = tally_total;
  transitive = tally_transitive;
  kept_by_join = λ f x y p.
      let a = tally_parts x y p in
      tally_from (tally (f.sum + x.sum) (f.count + x.count)) (tally (f.sum + y.sum) (f.count + y.count)) (omega (arith, a.0))
      (λ g. omega (arith, a.1 (omega arith)));
  never_before_rest = λ f x. tally_from x (tally (f.sum + x.sum) (f.count + x.count)) (omega arith) (λ g. omega arith);
}
