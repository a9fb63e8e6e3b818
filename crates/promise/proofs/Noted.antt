-- The moves noted from a node are its chain.
use Rattle.std.proofs.Common.{◌≡◌, ℕ, zero, suc, List, [], ◌∷◌, None, Some, Option, arith}
use Rattle.rows.specs.Tasks.{nth}
use Rattle.steps.specs.declared.tables.Record.{Record}
use Rattle.steps.specs.Memories.{At}
use Rattle.chains.specs.Chains.{Chain, done, link}
use Rattle.follow.specs.Histories.{Chain as Noted, done as ended, link as linked}

at_nth : {X : Type 0} (xs : List X) (n : ℕ) (x : X) → At xs n x → nth xs n ≡ Some x
at_nth [] n x h = absurd (omega (arith, h.below))
at_nth (y ∷ xs) zero x h = let e : y ≡ x = h.is in cc
at_nth (y ∷ xs) (suc n) x h = at_nth xs n x (record { below = omega (arith, h.below); is = h.is })

nth_at : {X : Type 0} (xs : List X) (n : ℕ) (x : X) → nth xs n ≡ Some x → At xs n x
nth_at {X} [] n x e = absurd (let d : ◌≡◌ {A = Option X} None (Some x) = e in cc)
nth_at (y ∷ xs) zero x e = let is : y ≡ x = cc in record { below = omega arith; is = is }
nth_at (y ∷ xs) (suc n) x e = let h = nth_at xs n x e in record { below = omega (arith, h.below); is = h.is }

pub noted_chain : {K : Type 0} {m : ℕ} {xs : List (Record K)} {n : ℕ} {ns : List ℕ} → Noted m xs n ns → Chain xs m n ns
noted_chain ended = done
noted_chain {xs = xs} (linked {n} {x} {ns} pos at lt mv c) = link (record { later = pos; stored = at_nth xs n x at; falls = lt; known = mv }) (noted_chain c)

pub chain_noted : {K : Type 0} {m : ℕ} {xs : List (Record K)} {n : ℕ} {ns : List ℕ} → Chain xs m n ns → Noted m xs n ns
chain_noted done = ended
chain_noted {xs = xs} (link {n} {x} {ns} l c) = linked l.later (nth_at xs n x l.stored) l.falls l.known (chain_noted c)
