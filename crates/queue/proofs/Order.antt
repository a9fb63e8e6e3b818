-- The order on entries: total, transitive.
use Rattle.std.proofs.Common.{◌≡◌, true, false, arith}
use Rattle.std.proofs.lemmas.Bool.Decides.{nat_tests}
use Rattle.cost.specs.declared.costs.Cost as cost
use Rattle.queue.specs.declared.entries.Entry.{Entry}
use Rattle.queue.specs.Orders.{goes}

module _ {K : Type 0} (C : cost.Ghosts K) where
  pub goes_refl : (a : Entry K) → goes C a a ≡ false
  goes_refl a = let t = C.arithmetic.total (C.value a.cost) (C.value a.cost) in grind (arith, nat_tests)

  pub goes_asym : (a b : Entry K) → goes C a b ≡ true → goes C b a ≡ false
  goes_asym a b h = let t = C.arithmetic.total (C.value a.cost) (C.value b.cost) in grind (arith, nat_tests)

  pub goes_trans : (a b c : Entry K) → goes C b a ≡ false → goes C c b ≡ false → goes C c a ≡ false
  goes_trans a b c p q =
      let va = C.value a.cost in
      let vb = C.value b.cost in
      let vc = C.value c.cost in
      let t1 = C.arithmetic.transitive va vb vc in
      let t2 = C.arithmetic.transitive vc va vb in
      let t3 = C.arithmetic.transitive vb vc va in
      grind (arith, nat_tests)
