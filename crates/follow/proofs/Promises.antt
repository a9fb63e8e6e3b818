-- What is promised of every job.
use Rattle.std.proofs.Common.{◌≡◌, ℕ, ◌+◌, ◌*◌, ◌<◌, ◌≤◌, List, None, Ok, sym, refl, ap, ◌∙◌, subst, arith}
use Rattle.task.specs.Files.{Bodies, move_count, reading, task_of}
use Rattle.task.proofs.Readings.{read_one}
use Rattle.cost.specs.declared.costs.Cost as cost
use Rattle.store.specs.declared.stores.Store as store
use Rattle.queue.specs.declared.queues.Queue as queue
use Rattle.planning.specs.Plans.{Plan}
use Rattle.planning.specs.Regressions.{regression, row_count, Regresses}
use Rattle.planning.proofs.Regressions.{regression_lawful, best_cheapest}
use Rattle.uniform.specs.Runs.{Run}
use Rattle.uniform.specs.Steps.{Outcome, found, no_plan, out_of_space, Ends}
use Rattle.uniform.specs.Promises as uniform
use Rattle.uniform.proofs.Goods.{found_cheapest, no_plan_none, few_nodes}
use Rattle.uniform.proofs.Endings.{ends_by}
use Rattle.uniform.proofs.Alikes.{go_alike}
use Rattle.steps.specs.declared.tables.Tables.{Tables}
use Rattle.steps.specs.Memories.{Memory, memory}
use Rattle.steps.specs.Holdings.{Held, Ample}
use Rattle.search.specs.declared.jobs.Searching.{Searching}
use Rattle.search.specs.declared.jobs.Worked.{Worked}
use Rattle.search.specs.declared.jobs.Worked.TheVariants as worked
use Rattle.search.specs.Files.{Suits}
use Rattle.steps.specs.Begins.{capacity}
use Rattle.search.specs.Works.{Works}
use Rattle.follow.specs.Histories.{History, went, capacity_of, Chain}
use Rattle.follow.specs.Promises.{most, Finds, AsDefined, StepsAsDefined, NeverRefused, FoundIsCheapest, NoPlanIsNone, SpaceSuffices, JobsEnd}
use Rattle.steps.proofs.Tasks.{move_count_lem, accepted}
use Rattle.follow.proofs.Chains.{chain_unique, chain_of}
use Rattle.follow.proofs.Histories.{Live, Over, State, state, never_refused}

-- P × M is the same said of the space and of the file
same_most : (b : Bodies) → uniform.most (regression (task_of b)) ≡ most b
same_most b = ap (λ z. row_count b.values * z) (move_count_lem b)

module _ {K : Type 0} (C : cost.Ghosts K) (file : List ℕ) (b : Bodies) (reads : reading file ≡ Ok b) where
  pub law : Regresses (task_of b)
  law = regression_lawful (task_of b) (accepted file b reads)

  -- the run that ended, over the task that the file is read as
  pub record OverAt (cap n : ℕ) (o : Outcome) (m : Memory K) : Type 0 where
    pub run : Run C.arithmetic (regression (task_of b))
    pub ends : Ends C.arithmetic (regression (task_of b)) cap n o run
    pub held : Held C (task_of b) m run
    pub ample : Ample C (task_of b) cap m

  finds : {cap n k : ℕ} {m : Memory K} → OverAt cap n (found k) m → Finds C b m.records k
  finds {cap} {n} {k} {m} o =
      let f = found_cheapest C.arithmetic (regression (task_of b)) law.lawful cap n k o.run o.ends in
      let c : Chain (move_count b) m.records k f.moves = subst (λ z. Chain z m.records k f.moves) (move_count_lem b) (chain_of C (task_of b) m o.run o.held f.reads) in
      let d = o.held.nodes k f.node f.there in
      record {
        moves = f.moves;
        chain = c;
        only = λ ms e. chain_unique e c refl;
        cheapest = best_cheapest C.arithmetic (task_of b) law f.moves f.best;
        noted = d.noted;
        there = d.there;
        cost = d.cost ∙ f.cost;
      }

  none_missed : {cap n : ℕ} {m : Memory K} → OverAt cap n no_plan m → (ms : List ℕ) → Plan (task_of b) ms → ⊥
  none_missed {cap} {n} o ms pl = no_plan_none C.arithmetic (regression (task_of b)) law.lawful cap n o.run ms o.ends ((law.plans ms).0 pl)

  roomy : {cap n : ℕ} {m : Memory K} → OverAt cap n out_of_space m → 1 + most b ≤ cap → ⊥
  roomy {cap} {n} o le = (few_nodes C.arithmetic (regression (task_of b)) law.lawful).space cap n o.run (omega (arith, same_most b)) o.ends

  last : {cap n : ℕ} {o : Outcome} {m : Memory K} → OverAt cap n o m → (n ≤ 2 + most b) × (n ≤ cap + 1)
  last {cap} {n} {o} v = (
    (let z = (few_nodes C.arithmetic (regression (task_of b)) law.lawful).steps_at_end cap n o v.run v.ends in omega (arith, same_most b)),
    (ends_by C.arithmetic (regression (task_of b)) law.lawful cap).at_end n o v.run v.ends,
  )

  -- two runs that ended, the first with space left
  pub record Both (n m : ℕ) (o q : Outcome) (s t : Run C.arithmetic (regression (task_of b))) : Type 0 where
    pub steps : m ≡ n
    pub how : q ≡ o
    pub alike : uniform.Alike s t

  pub both : {c d n m : ℕ} {o q : Outcome} {x y : Memory K} → c ≤ d → (v : OverAt c n o x) (w : OverAt d m q y) → (o ≡ out_of_space → ⊥) → Both n m o q v.run w.run
  both {c} {d} {n} {m} {o} {q} le v w space =
      let r = (go_alike C.arithmetic (regression (task_of b)) law.lawful c d le).at_end n m o q v.run w.run v.ends w.ends space in
      record { steps = r.0; how = r.1; alike = r.2 }

module _ {K S Q : Type 0} (C : cost.Ghosts K) (st : store.Ghosts S) (qu : queue.Ghosts Q K) (file : List ℕ) (b : Bodies) (reads : reading file ≡ Ok b) (s : Tables K S Q) where
  pub over_at : {cap n : ℕ} {o : Outcome} {m : Memory K} → Over C st qu file s cap n o m → OverAt C file b reads cap n o m
  over_at {cap} {n} {o} {m} v = go v.bodies (read_one file v.bodies b v.reads reads) v.run v.ends v.held v.ample
    where
      go : (d : Bodies) → d ≡ b → (r : Run C.arithmetic (regression (task_of d))) → Ends C.arithmetic (regression (task_of d)) cap n o r → Held C (task_of d) m r → Ample C (task_of d) cap m → OverAt C file b reads cap n o m
      go d e = subst (λ z. (r : Run C.arithmetic (regression (task_of z))) → Ends C.arithmetic (regression (task_of z)) cap n o r → Held C (task_of z) m r → Ample C (task_of z) cap m → OverAt C file b reads cap n o m) (sym e) (λ r f h a. record { run = r; ends = f; held = h; ample = a })

  state_capacity : (n : ℕ) (t : Tables K S Q) (w : Worked) → State C st qu file s n t w → capacity_of w ≡ capacity (task_of b) (memory st qu s 0 None)
  state_capacity n t (worked.Searching j) l = l.capacity ∙ ap (λ z. capacity (task_of z) (memory st qu s 0 None)) (read_one file l.bodies b l.reads reads)
  state_capacity n t (worked.Found f) l = l.0.capacity ∙ ap (λ z. capacity (task_of z) (memory st qu s 0 None)) (read_one file l.0.bodies b l.0.reads reads)
  state_capacity n t (worked.NoPlan x) l = l.capacity ∙ ap (λ z. capacity (task_of z) (memory st qu s 0 None)) (read_one file l.bodies b l.reads reads)
  state_capacity n t (worked.OutOfSpace x) l = l.capacity ∙ ap (λ z. capacity (task_of z) (memory st qu s 0 None)) (read_one file l.bodies b l.reads reads)

  still : (n : ℕ) (t : Tables K S Q) (j : Searching) → Live C st qu file s n t j → (n < 2 + most b) × (n < j.numbers.progress.capacity + 1)
  still n t j l =
      let p = regression (task_of l.bodies) in
      let ok = (regression_lawful (task_of l.bodies) (accepted file l.bodies l.reads)).lawful in
      let e : uniform.most p ≡ most b = same_most l.bodies ∙ ap most (read_one file l.bodies b l.reads reads) in (
        (let z = (few_nodes C.arithmetic p ok).steps j.numbers.progress.capacity n l.run l.follows.after in omega (arith, e)),
        (ends_by C.arithmetic p ok j.numbers.progress.capacity).still n l.run l.follows.after,
      )

  at_end : (n : ℕ) (t : Tables K S Q) (w : Worked) → State C st qu file s n t w → (n ≤ 2 + most b) × (n ≤ capacity_of w + 1)
  at_end n t (worked.Searching j) l = let z = still n t j l in let x = z.0 in let y = z.1 in (omega arith, omega arith)
  at_end n t (worked.Found f) l = last C file b reads (over_at l.0)
  at_end n t (worked.NoPlan x) l = last C file b reads (over_at l)
  at_end n t (worked.OutOfSpace x) l = last C file b reads (over_at l)

  live_at : (n : ℕ) (t : Tables K S Q) (j : Searching) → Live C st qu file s n t j → AsDefined C st qu file b n t (worked.Searching j)
  live_at n t j l = subst (λ z. AsDefined C st qu file z n t (worked.Searching j)) (read_one file l.bodies b l.reads reads) (l.run, l.follows.after, l.follows.held, l.follows.ample)

  defined : (n : ℕ) (t : Tables K S Q) (w : Worked) → State C st qu file s n t w → AsDefined C st qu file b n t w
  defined n t (worked.Searching j) l = live_at n t j l
  defined n t (worked.Found f) l = let v = over_at l.0 in (v.run, v.ends, v.held, v.ample, subst (λ z. Suits file f.shape z) (read_one file l.1.0 b l.1.1.reads reads) l.1.1)
  defined n t (worked.NoPlan x) l = let v = over_at l in (v.run, v.ends, v.held, v.ample)
  defined n t (worked.OutOfSpace x) l = let v = over_at l in (v.run, v.ends, v.held, v.ample)

  surely : (t u : Tables K S Q) (n budget i : ℕ) (j k : Searching) → History C st qu file s n t (worked.Searching j) → j.numbers.progress.capacity + 1 ≤ n + budget → Works C st qu file j budget t u (Ok (worked.Searching k, i)) → ⊥
  surely t u n budget i j k h le w =
      let z = still (n + i) u k (state C st qu file s (went n budget i t u j (worked.Searching k) h w)) in
      let lt = z.1 in
      let ib : i ≡ budget = w.1.2.0 in
      let same : k.numbers.progress.capacity ≡ j.numbers.progress.capacity = w.1.2.1.capacity in
      omega arith

module _ {K S Q : Type 0} (C : cost.Ghosts K) (st : store.Ghosts S) (qu : queue.Ghosts Q K) where
  pub jobs_defined : StepsAsDefined C st qu
  jobs_defined file b s t n w reads h = defined C st qu file b reads s n t w (state C st qu file s h)

  pub jobs_never_refused : NeverRefused C st qu
  jobs_never_refused file s t u n budget i j k h w = never_refused C st qu file s n budget i t u j k (state C st qu file s h) w

  pub jobs_cheapest : FoundIsCheapest C st qu
  jobs_cheapest file b s t n f reads h = finds C file b reads (over_at C st qu file b reads s (state C st qu file s h).0)

  pub jobs_complete : NoPlanIsNone C st qu
  jobs_complete file b s t n x ms reads h pl = none_missed C file b reads (over_at C st qu file b reads s (state C st qu file s h)) ms pl

  pub jobs_roomy : SpaceSuffices C st qu
  jobs_roomy file b s t n x reads le h = roomy C file b reads (over_at C st qu file b reads s (state C st qu file s h)) le

  pub jobs_end : JobsEnd C st qu
  jobs_end file b reads = record {
    capacity = λ s t n w h. state_capacity C st qu file b reads s n t w (state C st qu file s h);
    still = λ s t n j h. still C st qu file b reads s n t j (state C st qu file s h);
    at_end = λ s t n w h. at_end C st qu file b reads s n t w (state C st qu file s h);
    surely = λ s t u n budget i j k h le w. surely C st qu file b reads s t u n budget i j k h le w;
  }
