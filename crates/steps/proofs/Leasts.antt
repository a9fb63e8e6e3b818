-- The least number is one.
use Rattle.std.proofs.Common.{◌≡◌, ℕ, zero, suc, ◌<◌, ◌≤◌, true, false, not, ◌&&◌, ltb, leb, List, [], ◌∷◌, length, get_or, MatchBool, sym, refl, ap, ◌∙◌, subst, ⊎_elim, arith}
use Rattle.std.proofs.lemmas.Bool.{or_parts, and_cases, ltb-false, not-false, both_ways, leb-true, leb-false}
use Rattle.rows.specs.Rows.{Row, fits}
use Rattle.rows.specs.Tasks.{Task}
use Rattle.cost.specs.declared.costs.Cost as cost
use Rattle.queue.specs.declared.entries.Entry.{Entry}
use Rattle.queue.specs.Orders.{goes, Least, Names}
use Rattle.steps.specs.declared.tables.Record.{Record}
use Rattle.steps.specs.Memories.{Memory, At, width, row_at}
use Rattle.steps.specs.Steps.{Sound}

pub no_more : {X : Type 0} (xs : List X) → length xs ≡ 0 → xs ≡ []
no_more [] e = refl
no_more (x ∷ xs) e = absurd (omega arith)

pub exists_at : {X : Type 0} (xs : List X) (n : ℕ) → n < length xs → (x : X) × At xs n x
exists_at [] n h = absurd (omega arith)
exists_at (y ∷ xs) zero h = (y, record { below = h; is = refl })
exists_at (y ∷ xs) (suc n) h = let r = exists_at xs n (omega arith) in (r.0, record { below = h; is = r.1.is })

-- one thing stands at a place
pub one_at : {X : Type 0} (xs : List X) (n : ℕ) (x y : X) → At xs n x → At xs n y → x ≡ y
one_at [] n x y a b = absurd (let h = a.below in omega arith)
one_at (z ∷ xs) zero x y a b = sym a.is ∙ b.is
one_at (z ∷ xs) (suc n) x y a b = one_at xs n x y (record { below = let h = a.below in omega arith; is = a.is }) (record { below = let h = b.below in omega arith; is = b.is })

module _ {K : Type 0} (C : cost.Ghosts K) where
  -- of two entries neither of which comes before the other, neither number is below the other's
  not_below : (d e : Entry K) → goes C d e ≡ false → goes C e d ≡ false → e.number ≤ d.number
  not_below d e p q =
      let bd = C.arithmetic.before (C.value d.cost) (C.value e.cost) in
      let be = C.arithmetic.before (C.value e.cost) (C.value d.cost) in
      let hp = or_parts bd (not be && ltb d.number e.number) p in
      let hq = or_parts be (not bd && ltb e.number d.number) q in
      ⊎_elim (λ n. absurd (both_ways be hq.0 (not-false be n))) (λ l. ltb-false d.number e.number l) (and_cases (not be) (ltb d.number e.number) hp.1)

  pub same_number : (xs : List (Entry K)) (d e : Entry K) → Least C xs d → Least C xs e → d.number ≡ e.number
  same_number xs d e p q = omega (arith, not_below d e (q.least d p.there) (p.least e q.there), not_below e d (p.least e q.there) (q.least d p.there))

  pub one_name : (xs : List (Entry K)) (n m : ℕ) → Names C xs n → Names C xs m → n ≡ m
  one_name xs n m p q = p.2 ∙ same_number xs p.0 q.0 p.1 q.1 ∙ sym q.2

  pub none_named : (xs : List (Entry K)) (n : ℕ) → xs ≡ [] → Names C xs n → ⊥
  none_named xs n e p = let h = p.1.there.1 in omega (arith, ap length e)

  pub sound_from : (task : Task) (s : Memory K) (n : ℕ) (r : Row) (v j : ℕ) → n < s.stored → s.stored ≤ length s.records → v ≡ width task → r ≡ row_at v s.bytes n → fits task.values r ≡ true
      → (x : Record K) → At s.records n x → j ≡ C.joins x.cost
      → MatchBool (leb j n) (Sound C task n s) (Sound C task n s → ⊥)
  sound_from task s n r v j lt le ev er f x at ej =
      let er' : r ≡ row_at (width task) s.bytes n = subst (λ z. r ≡ row_at z s.bytes n) ev er in
      let cost_is : (y : Record K) → At s.records n y → j ≡ C.joins y.cost = λ y a. ej ∙ ap (λ z. C.joins z.cost) (one_at s.records n x y at a) in
      elim (leb j n) as (λ b. leb j n ≡ b → MatchBool b (Sound C task n s) (Sound C task n s → ⊥)) [
        | true ↦ λ h. record { node = lt; fit = subst (λ z. fits task.values z ≡ true) er' f; noted = x; there = at; joins = subst (λ z. z ≤ n) (cost_is x at) (leb-true j n h) }
        | false ↦ λ h sd. let e = cost_is sd.noted sd.there in let lt' = leb-false j n h in omega (arith, sd.joins)
      ] refl
