-- The moves noted in records are those read from the nodes that they hold.
use Rattle.std.proofs.Common.{◌≡◌, ℕ, ◌<◌, List, ◌∷◌, length, sym, refl, ap, ◌∙◌, subst, arith}
use Rattle.rows.specs.Tasks.{Task}
use Rattle.cost.specs.declared.costs.Cost as cost
use Rattle.planning.specs.Regressions.{regression}
use Rattle.uniform.specs.Runs.{Run, Reads}
use Rattle.uniform.specs.Runs as runs
use Rattle.steps.specs.declared.tables.Record.{Record}
use Rattle.steps.specs.Memories.{Memory, At}
use Rattle.steps.specs.Holdings.{Held}
use Rattle.follow.specs.Histories.{Chain, done, link}
use Rattle.follow.proofs.Places.{at_one}

-- one list of moves is noted from a node
pub chain_unique : {K : Type 0} {m : ℕ} {xs : List (Record K)} {n : ℕ} {ns : List ℕ} → Chain m xs n ns → {k : ℕ} {ms : List ℕ} → Chain m xs k ms → n ≡ k → ns ≡ ms
chain_unique done done e = refl
chain_unique done (link pos at lt mv c) e = absurd (omega arith)
chain_unique (link pos at lt mv c) done e = absurd (omega arith)
chain_unique {xs = xs} (link {n} {x} {ns} pos at lt mv c) (link {n = k} {x = y} pos' at' lt' mv' c') e =
    let s : x ≡ y = at_one xs k x y (subst (λ z. At xs z x) e at) at' in
    let t = chain_unique c c' (ap (λ z. z.parent) s) in
    ap (λ z. z.step ∷ ns) s ∙ ap (λ z. y.step ∷ z) t

module _ {K : Type 0} (C : cost.Ghosts K) (task : Task) (s : Memory K) (r : Run C.arithmetic (regression task)) (h : Held C task s r) where
  pub chain_of : {n : ℕ} {ns : List ℕ} → Reads C.arithmetic (regression task) r.nodes n ns → Chain (length task.moves) s.records n ns
  chain_of runs.done = done
  chain_of (runs.link {n} {x} {ns} pos at lt mv rs) =
      let d = h.nodes n x at in
      let c : Chain (length task.moves) s.records d.noted.parent ns = subst (λ z. Chain (length task.moves) s.records z ns) (sym d.parent) (chain_of rs) in
      subst (λ z. Chain (length task.moves) s.records n (z ∷ ns)) d.move
      (link pos d.there (subst (λ z. z < n) (sym d.parent) lt) (subst (λ z. z < length task.moves) (sym d.move) mv) c)
