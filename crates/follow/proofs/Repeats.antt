-- Two jobs on one file find the same.
use Rattle.std.proofs.Common.{◌≡◌, ℕ, ◌≤◌, true, false, List, length, Ok, sym, refl, ap, ◌∙◌, subst, arith}
use Rattle.std.proofs.lemmas.Bool.{both_ways}
use Rattle.task.specs.Files.{Bodies, move_count, reading, task_of}
use Rattle.cost.specs.declared.costs.Cost as cost
use Rattle.store.specs.declared.stores.Store as store
use Rattle.queue.specs.declared.queues.Queue as queue
use Rattle.planning.specs.Regressions.{regression}
use Rattle.uniform.specs.Runs.{Reads}
use Rattle.uniform.specs.Steps.{Outcome, skipped, expanded, found, no_plan, out_of_space}
use Rattle.uniform.proofs.Goods.{found_cheapest}
use Rattle.steps.specs.declared.tables.Tables.{Tables}
use Rattle.steps.specs.Memories.{Memory}
use Rattle.search.specs.declared.jobs.Found.{Found}
use Rattle.search.specs.declared.jobs.NoPlan.{NoPlan}
use Rattle.search.specs.declared.jobs.Worked.{Worked}
use Rattle.search.specs.declared.jobs.Worked.TheVariants as worked
use Rattle.follow.specs.Histories.{ended, capacity_of, Chain}
use Rattle.follow.specs.Promises.{SameFound, Repeatable}
use Rattle.steps.proofs.Tasks.{move_count_lem}
use Rattle.follow.proofs.Chains.{chain_unique, chain_of}
use Rattle.follow.proofs.Histories.{State, state}
use Rattle.follow.proofs.Promises.{law, OverAt, Both, both, over_at}

-- endings of other kinds differ
abbrev pub kind : Outcome → ℕ
kind (found n) = 0
kind no_plan = 1
kind out_of_space = 2
kind skipped = 3
kind expanded = 4

pub other : {X : Type 0} (o q : Outcome) → o ≡ q → (kind o ≡ kind q → ⊥) → X
other o q e ne = absurd (ne (ap kind e))

pub found_inj : (n m : ℕ) → found n ≡ found m → n ≡ m
found_inj n m e = cc

module _ {K : Type 0} (C : cost.Ghosts K) (file : List ℕ) (b : Bodies) (reads : reading file ≡ Ok b) where
  -- the same moves are noted
  same_moves : {c d n m k i : ℕ} {x y : Memory K} → (v : OverAt C file b reads c n (found k) x) (w : OverAt C file b reads d m (found i) y) → Both C file b reads n m (found k) (found i) v.run w.run
      → (ms : List ℕ) → Chain (move_count b) x.records k ms → Chain (move_count b) y.records i ms
  same_moves {c} {d} {n} {m} {k} {i} {x} {y} v w r ms chain =
      let a = C.arithmetic in
      let p = regression (task_of b) in
      let f = found_cheapest a p (law C file b reads).lawful c n k v.run v.ends in
      let mine : Chain (move_count b) x.records k f.moves = subst (λ z. Chain z x.records k f.moves) (move_count_lem b) (chain_of C (task_of b) x v.run v.held f.reads) in
      let is : f.moves ≡ ms = chain_unique mine chain refl in
      let read : Reads a p w.run.nodes k f.moves = subst (λ z. Reads a p z k f.moves) r.alike.nodes f.reads in
      let theirs : Chain (move_count b) y.records k f.moves = subst (λ z. Chain z y.records k f.moves) (move_count_lem b) (chain_of C (task_of b) y w.run w.held read) in
      subst (λ z. Chain (move_count b) y.records z ms) (sym (found_inj i k r.how)) (subst (λ z. Chain (move_count b) y.records k z) is theirs)

module _ {K S Q R P : Type 0} (C : cost.Ghosts K) (st : store.Ghosts S) (qu : queue.Ghosts Q K) (st' : store.Ghosts R) (qu' : queue.Ghosts P K) (file : List ℕ) (b : Bodies) (reads : reading file ≡ Ok b) where
  same_found : (s t : Tables K S Q) (s' t' : Tables K R P) (n m : ℕ) (f : Found) (w : Worked) → State C st qu file s n t (worked.Found f) → State C st' qu' file s' m t' w → ended w ≡ true → f.progress.capacity ≤ capacity_of w
      → SameFound b t.records.now t'.records.now n m f w
  same_found s t s' t' n m f (worked.Searching j) h k e le = absurd (both_ways false refl e)
  same_found s t s' t' n m f (worked.Found g) h k e le =
      let v = over_at C st qu file b reads s h.0 in
      let w = over_at C st' qu' file b reads s' k.0 in
      let r = both C file b reads le v w (λ q. other (found f.node) out_of_space q (λ z. omega arith)) in
      record {
        job = g;
        is = refl;
        steps = r.steps;
        node = found_inj g.node f.node r.how;
        stored = w.held.stored ∙ ap length (sym r.alike.nodes) ∙ sym v.held.stored;
        moves = same_moves C file b reads v w r;
      }
  same_found s t s' t' n m f (worked.NoPlan x) h k e le =
      let r = both C file b reads le (over_at C st qu file b reads s h.0) (over_at C st' qu' file b reads s' k) (λ q. other (found f.node) out_of_space q (λ z. omega arith)) in
      other no_plan (found f.node) r.how (λ z. omega arith)
  same_found s t s' t' n m f (worked.OutOfSpace x) h k e le =
      let r = both C file b reads le (over_at C st qu file b reads s h.0) (over_at C st' qu' file b reads s' k) (λ q. other (found f.node) out_of_space q (λ z. omega arith)) in
      other out_of_space (found f.node) r.how (λ z. omega arith)

  same_none : (s t : Tables K S Q) (s' t' : Tables K R P) (n m : ℕ) (x : NoPlan) (w : Worked) → State C st qu file s n t (worked.NoPlan x) → State C st' qu' file s' m t' w → ended w ≡ true → x.progress.capacity ≤ capacity_of w
      → ((y : NoPlan) × (w ≡ worked.NoPlan y)) × (m ≡ n)
  same_none s t s' t' n m x (worked.Searching j) h k e le = absurd (both_ways false refl e)
  same_none s t s' t' n m x (worked.Found g) h k e le =
      let r = both C file b reads le (over_at C st qu file b reads s h) (over_at C st' qu' file b reads s' k.0) (λ q. other no_plan out_of_space q (λ z. omega arith)) in
      other (found g.node) no_plan r.how (λ z. omega arith)
  same_none s t s' t' n m x (worked.NoPlan y) h k e le =
      let r = both C file b reads le (over_at C st qu file b reads s h) (over_at C st' qu' file b reads s' k) (λ q. other no_plan out_of_space q (λ z. omega arith)) in
      ((y, refl), r.steps)
  same_none s t s' t' n m x (worked.OutOfSpace y) h k e le =
      let r = both C file b reads le (over_at C st qu file b reads s h) (over_at C st' qu' file b reads s' k) (λ q. other no_plan out_of_space q (λ z. omega arith)) in
      other out_of_space no_plan r.how (λ z. omega arith)

module _ {K S Q R P : Type 0} (C : cost.Ghosts K) (st : store.Ghosts S) (qu : queue.Ghosts Q K) (st' : store.Ghosts R) (qu' : queue.Ghosts P K) where
  pub repeatable : Repeatable C st qu st' qu'
  repeatable file b reads = record {
    found = λ s t s' t' n m f w h k e le. same_found C st qu st' qu' file b reads s t s' t' n m f w (state C st qu file s h) (state C st' qu' file s' k) e le;
    none = λ s t s' t' n m x w h k e le. same_none C st qu st' qu' file b reads s t s' t' n m x w (state C st qu file s h) (state C st' qu' file s' k) e le;
  }
