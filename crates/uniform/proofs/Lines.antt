-- The sample line's runs, computed.
use Rattle.std.specs.Prelude.{◌≡◌, ℕ, zero, suc, ◌<◌, Bool, true, false, ◌&&◌, List, [], ◌∷◌, length, Some, None, Option, ◌==◌, nat_lt, refl}
use Rattle.std.proofs.Common.{sym, subst}
use Rattle.std.proofs.lemmas.Bool.{both_ways, and_parts, eqb-true, ltb-true}
use Rattle.rows.specs.Tasks.{Task, nth}
use Rattle.cost.specs.Costs.{Arithmetic}
use Rattle.planning.specs.Spaces.{Space, Best}
use Rattle.planning.specs.Regressions.{regression, Regresses}
use Rattle.planning.proofs.Lists.{some_inj, none_some}
use Rattle.planning.proofs.Regressions.{regression_lawful, best_cheapest}
use Rattle.uniform.specs.Runs.{Node, Run, opened, Reads, done, link}
use Rattle.uniform.specs.Steps.{Outcome, skipped, expanded, found, no_plan, out_of_space, going, opening, Ends}
use Rattle.uniform.specs.Samples.{Kind, arithmetic, amount, Told, plan, no_plan_told, no_space_told, Line, table, Tells, Shown, SampleRuns}
use Rattle.uniform.specs.Acceptances.{accepts, accepted}
use Rattle.uniform.proofs.Computed.{bind}
use Rattle.uniform.proofs.Endings.{Ran, ran, ran_ends}
use Rattle.uniform.proofs.Goods.{found_cheapest, no_plan_none}

unlike : {X : Type 0} → false ≡ true → X
unlike e = absurd (both_ways false refl e)

module _ (a : Arithmetic) (p : Space) where
  -- the moves are those read from the node
  abbrev chain : List (Node a p) → ℕ → List ℕ → Bool
  chain nodes n [] = n == 0
  chain nodes n (m ∷ ms) = nat_lt 0 n && bind (nth nodes n) false (λ x. ((x.move == m && nat_lt x.parent n) && nat_lt x.move p.moves) && chain nodes x.parent ms)

  link_is : (nodes : List (Node a p)) (n m : ℕ) (ms : List ℕ) (o : Option (Node a p)) → 0 < n → nth nodes n ≡ o → ((k : ℕ) → chain nodes k ms ≡ true → Reads a p nodes k ms)
      → bind o false (λ x. ((x.move == m && nat_lt x.parent n) && nat_lt x.move p.moves) && chain nodes x.parent ms) ≡ true → Reads a p nodes n (m ∷ ms)
  link_is nodes n m ms None pos at f h = unlike h
  link_is nodes n m ms (Some x) pos at f h =
      let b = and_parts ((x.move == m && nat_lt x.parent n) && nat_lt x.move p.moves) (chain nodes x.parent ms) h in
      let c = and_parts (x.move == m && nat_lt x.parent n) (nat_lt x.move p.moves) b.0 in
      let d = and_parts (x.move == m) (nat_lt x.parent n) c.0 in
      subst (λ z. Reads a p nodes n (z ∷ ms)) (eqb-true x.move m d.0) (link pos at (ltb-true x.parent n d.1) (ltb-true x.move p.moves c.1) (f x.parent b.1))

  chain_is : (nodes : List (Node a p)) (n : ℕ) (ns : List ℕ) → chain nodes n ns ≡ true → Reads a p nodes n ns
  chain_is nodes n [] h = subst (λ z. Reads a p nodes z []) (sym (eqb-true n 0 h)) done
  chain_is nodes n (m ∷ ms) h =
      let b = and_parts (nat_lt 0 n) (bind (nth nodes n) false (λ x. ((x.move == m && nat_lt x.parent n) && nat_lt x.move p.moves) && chain nodes x.parent ms)) h in
      link_is nodes n m ms (nth nodes n) (ltb-true 0 n b.0) refl (λ k g. chain_is nodes k ms g) b.1

module _ (k : Kind) (t : Task) where
  abbrev costs : ℕ → Option (Node (arithmetic k) (regression t)) → Bool
  costs c None = false
  costs c (Some x) = amount k x.cost == c

  -- the run ended so
  abbrev ended : Told → Outcome → Run (arithmetic k) (regression t) → Bool
  ended (plan c ns) skipped s = false
  ended (plan c ns) expanded s = false
  ended (plan c ns) (found n) s = chain (arithmetic k) (regression t) s.nodes n ns && costs c (nth s.nodes n)
  ended (plan c ns) no_plan s = false
  ended (plan c ns) out_of_space s = false
  ended no_plan_told skipped s = false
  ended no_plan_told expanded s = false
  ended no_plan_told (found n) s = false
  ended no_plan_told no_plan s = true
  ended no_plan_told out_of_space s = false
  ended no_space_told skipped s = false
  ended no_space_told expanded s = false
  ended no_space_told (found n) s = false
  ended no_space_told no_plan s = false
  ended no_space_told out_of_space s = true

  costs_is : (c : ℕ) (o : Option (Node (arithmetic k) (regression t))) → costs c o ≡ true → (x : Node (arithmetic k) (regression t)) × (o ≡ Some x) × (amount k x.cost ≡ c)
  costs_is c None h = unlike h
  costs_is c (Some x) h = (x, refl, eqb-true (amount k x.cost) c h)

  ended_is : (cap steps : ℕ) (e : Told) (how : Outcome) (s : Run (arithmetic k) (regression t)) → Regresses t → (going how ≡ false → Ends (arithmetic k) (regression t) cap steps how s) → ended e how s ≡ true → Tells k t cap steps e s
  ended_is cap steps (plan c ns) skipped s reg f h = unlike h
  ended_is cap steps (plan c ns) expanded s reg f h = unlike h
  ended_is cap steps (plan c ns) (found n) s reg f h =
      let b = and_parts (chain (arithmetic k) (regression t) s.nodes n ns) (costs c (nth s.nodes n)) h in
      let r = chain_is (arithmetic k) (regression t) s.nodes n ns b.0 in
      let x = costs_is c (nth s.nodes n) b.1 in
      let g = found_cheapest (arithmetic k) (regression t) reg.lawful cap steps n s (f refl) in
      (n, x.0, f refl, r, x.1, x.2, best_cheapest (arithmetic k) t reg ns (subst (λ z. Best (regression t) (arithmetic k) z) (sym (g.only ns r)) g.best))
  ended_is cap steps (plan c ns) no_plan s reg f h = unlike h
  ended_is cap steps (plan c ns) out_of_space s reg f h = unlike h
  ended_is cap steps no_plan_told skipped s reg f h = unlike h
  ended_is cap steps no_plan_told expanded s reg f h = unlike h
  ended_is cap steps no_plan_told (found n) s reg f h = unlike h
  ended_is cap steps no_plan_told no_plan s reg f h =
      (f refl, λ ns pl. no_plan_none (arithmetic k) (regression t) reg.lawful cap steps s ns (f refl) ((reg.plans ns).0 pl))
  ended_is cap steps no_plan_told out_of_space s reg f h = unlike h
  ended_is cap steps no_space_told skipped s reg f h = unlike h
  ended_is cap steps no_space_told expanded s reg f h = unlike h
  ended_is cap steps no_space_told (found n) s reg f h = unlike h
  ended_is cap steps no_space_told no_plan s reg f h = unlike h
  ended_is cap steps no_space_told out_of_space s reg f h = f refl

-- the line's run, by at most nine steps
abbrev of : (l : Line) → Ran (arithmetic l.kind) (regression l.task) l.capacity
of l = ran (arithmetic l.kind) (regression l.task) l.capacity 9 0 (opened (arithmetic l.kind) (regression l.task))

abbrev right : (l : Line) → Ran (arithmetic l.kind) (regression l.task) l.capacity → Bool
right l r = ((accepts l.task && nat_lt 0 l.capacity) && (r.steps == l.steps && length r.run.nodes == l.nodes)) && ended l.kind l.task l.told r.how r.run

abbrev right_all : List Line → Bool
right_all [] = true
right_all (l ∷ ls) = right l (of l) && right_all ls

shown : (l : Line) → right l (of l) ≡ true → Shown l
shown l h =
    let r = of l in
    let b = and_parts ((accepts l.task && nat_lt 0 l.capacity) && (r.steps == l.steps && length r.run.nodes == l.nodes)) (ended l.kind l.task l.told r.how r.run) h in
    let c = and_parts (accepts l.task && nat_lt 0 l.capacity) (r.steps == l.steps && length r.run.nodes == l.nodes) b.0 in
    let d = and_parts (accepts l.task) (nat_lt 0 l.capacity) c.0 in
    let e = and_parts (r.steps == l.steps) (length r.run.nodes == l.nodes) c.1 in
    let reg : Regresses l.task = regression_lawful l.task (accepted l.task d.0) in
    let f = ran_ends (arithmetic l.kind) (regression l.task) reg.lawful l.capacity 9 0 (opened (arithmetic l.kind) (regression l.task)) (opening (ltb-true 0 l.capacity d.1)) in (
      r.run,
      eqb-true (length r.run.nodes) l.nodes e.1,
      ended_is l.kind l.task l.capacity l.steps l.told r.how r.run reg
          (λ g. subst (λ z. Ends (arithmetic l.kind) (regression l.task) l.capacity z r.how r.run) (eqb-true r.steps l.steps e.0) (f g)) b.1,
    )

shown_all : (ls : List Line) → right_all ls ≡ true → (k : ℕ) (l : Line) → nth ls k ≡ Some l → Shown l
shown_all [] h k l e = none_some l e
shown_all (x ∷ ls) h zero l e = subst (λ z. Shown z) (some_inj x l e) (shown x (and_parts (right x (of x)) (right_all ls) h).0)
shown_all (x ∷ ls) h (suc k) l e = shown_all ls (and_parts (right x (of x)) (right_all ls) h).1 k l e

pub sample_runs : SampleRuns
sample_runs = shown_all table refl
