-- Every list of calls keeps what is promised.
use Rattle.std.proofs.Common.{◌≡◌, ℕ, ◌+◌, ◌*◌, ◌<◌, ◌≤◌, List, ◌++◌, length, take, drop, Ok, Err, sym, refl, ap, ◌∙◌, subst, arith, take_at}
use Rattle.rows.specs.declared.refusals.Refusal.TheVariants.{Torn, ShortBuffer}
use Rattle.task.specs.Files.{Bodies, move_count, reading, task_of}
use Rattle.cost.specs.declared.costs.Cost as cost
use Rattle.store.specs.declared.stores.Store as store
use Rattle.queue.specs.declared.queues.Queue as queue
use Rattle.planning.specs.Lists.{In}
use Rattle.planning.specs.Plans.{plan_cost, Cheapest}
use Rattle.steps.specs.declared.tables.Tables.{Tables}
use Rattle.chains.specs.Chains.{Chain}
use Rattle.search.specs.declared.jobs.Searching.{Searching}
use Rattle.search.specs.declared.jobs.Found.{Found}
use Rattle.search.specs.declared.jobs.Worked.{Worked}
use Rattle.search.specs.declared.jobs.Worked.TheVariants as worked
use Rattle.search.specs.Files.{Suits}
use Rattle.search.specs.Works.{Works}
use Rattle.search.specs.Reads.{Legible, PlanRead, ReadsPlan, CostRead}
use Rattle.follow.specs.Histories.{History, went}
use Rattle.follow.specs.Promises.{Finds, most}
use Rattle.follow.proofs.Promises.{jobs_defined, jobs_never_refused, jobs_cheapest, jobs_complete, jobs_roomy, jobs_end}
use Rattle.promise.specs.Calls.{Job, job, Calls}
use Rattle.promise.specs.Promises.{Defined, Kept, AlwaysKept}
use Rattle.promise.proofs.Noted.{noted_chain, chain_noted}
use Rattle.promise.proofs.Lives.{Life, life, reopened}

-- the moves that were read are in front of the buffer
pub front_read : (plan out after : List ℕ) (count : ℕ) → count ≡ length plan → after ≡ plan ++ drop count out → take count after ≡ plan
front_read plan out after count e w = ap (take count) w ∙ take_at plan (drop count out) count (sym e)

module _ {K S Q : Type 0} (C : cost.Ghosts K) (st : store.Ghosts S) (qu : queue.Ghosts Q K) (file : List ℕ) (b : Bodies) (reads : reading file ≡ Ok b) where
  -- what a found job of a list notes
  module _ (t : Tables K S Q) (n : ℕ) (f : Found) (l : Life C st qu file b reads t (job n (worked.Found f))) where
    pub finds : Finds C b l.tables.records.now f.node
    finds = jobs_cheapest C st qu file b l.begins l.tables n f reads l.history

    suits : Suits file f.shape b
    suits = (jobs_defined C st qu file b l.begins l.tables n (worked.Found f) reads l.history).4

    pub legible : Legible file f t finds.moves
    legible = record {
      bodies = b;
      suits = suits;
      bytes = subst (λ z. f.progress.capacity * z ≤ length t.rows.now) suits.shaped.0 l.ample.bytes;
      records = l.ample.records;
      chain = subst (λ z. Chain t.records.now z f.node finds.moves) suits.shaped.1 (l.there f (move_count b) finds.moves refl (noted_chain finds.chain));
    }

    -- whatever plan is read, it is that one
    pub plan_is : (plan : List ℕ) → Legible file f t plan → plan ≡ finds.moves
    plan_is plan g = finds.only plan (chain_noted (l.back f (move_count b) plan refl (subst (λ z. Chain t.records.now z f.node plan) (sym suits.shaped.1) g.chain)))

    read_is : (count : ℕ) (out after : List ℕ) → PlanRead file f t out count after → take count after ≡ finds.moves
    read_is count out after r = front_read r.plan out after count r.counted r.written ∙ plan_is r.plan r.legible

    read_cheapest : (count : ℕ) (out after : List ℕ) → PlanRead file f t out count after → Cheapest C.arithmetic (task_of b) (take count after)
    read_cheapest count out after r = subst (λ z. Cheapest C.arithmetic (task_of b) z) (sym (read_is count out after r)) finds.cheapest

    pub cost_is : (k : K) → CostRead file f t k → C.value k ≡ plan_cost C.arithmetic (task_of b) finds.moves
    cost_is k r = ap C.value r.is ∙ l.cost f r.noted finds.noted refl r.there finds.there ∙ finds.cost

    never_torn : (out after : List ℕ) → ReadsPlan file f t out (Err Torn) after → ⊥
    never_torn out after r =
        let e : Torn ≡ ShortBuffer = (r.0.short finds.moves legible).0 in
        let z : ◌≡◌ {A = ℕ} 0 1 = cc in
        omega arith

  defined_is : (s t : Tables K S Q) (n : ℕ) (w : Worked) → History C st qu file s n t w → Defined C b n w
  defined_is s t n (worked.Searching j) h = let d = jobs_defined C st qu file b s t n (worked.Searching j) reads h in (d.0, d.1, record { stored = d.2.stored; cover = d.2.cover })
  defined_is s t n (worked.Found f) h = let d = jobs_defined C st qu file b s t n (worked.Found f) reads h in (d.0, d.1, record { stored = d.2.stored; cover = d.2.cover })
  defined_is s t n (worked.NoPlan x) h = let d = jobs_defined C st qu file b s t n (worked.NoPlan x) reads h in (d.0, d.1, record { stored = d.2.stored; cover = d.2.cover })
  defined_is s t n (worked.OutOfSpace x) h = let d = jobs_defined C st qu file b s t n (worked.OutOfSpace x) reads h in (d.0, d.1, record { stored = d.2.stored; cover = d.2.cover })

  -- the history of a job that goes on leads to the tables of the list
  live_history : (t : Tables K S Q) (n : ℕ) (j : Searching) (l : Life C st qu file b reads t (job n (worked.Searching j))) → History C st qu file l.begins n t (worked.Searching j)
  live_history t n j l = subst (λ z. History C st qu file l.begins n z (worked.Searching j)) (l.live j refl) l.history

  surely_ends : (s t u : Tables K S Q) (n budget i : ℕ) (j k : Searching) → History C st qu file s n t (worked.Searching j) → Works C st qu file j budget t u (Ok (worked.Searching k, i)) → (n + budget < 2 + most b) × (n + budget < j.numbers.progress.capacity + 1)
  surely_ends s t u n budget i j k h w =
      let z = (jobs_end C st qu file b reads).still s u (n + i) k (went n budget i t u j (worked.Searching k) h w) in
      let first = z.0 in
      let second = z.1 in
      let ib : i ≡ budget = w.1.2.0 in
      let same : k.numbers.progress.capacity ≡ j.numbers.progress.capacity = w.1.2.1.capacity in
      (omega arith, omega arith)

  kept : (t : Tables K S Q) (js : List Job) → Calls C st qu file t js → Kept C st qu file b t js
  kept t js cs =
      let at : (g : Job) → In g js → Life C st qu file b reads t g = life C st qu file b reads cs in
      record {
        works = λ n budget i j k u m w. (let l = at (job n (worked.Searching j)) m in jobs_never_refused C st qu file l.begins t u n budget i j k (live_history t n j l) w);
        plan_reads = λ n f out after m r. never_torn t n f (at (job n (worked.Found f)) m) out after r;
        cost_reads = λ n f e m r. r.1 _ (legible t n f (at (job n (worked.Found f)) m));
        defined = λ n w m. (let l = at (job n w) m in defined_is l.begins l.tables n w l.history);
        cheapest = λ n count f out after m r. read_cheapest t n f (at (job n (worked.Found f)) m) count out after r;
        cost = λ n count f out after k m r c. (
            let l = at (job n (worked.Found f)) m in
            cost_is t n f l k c ∙ ap (plan_cost C.arithmetic (task_of b)) (sym (read_is t n f l count out after r)));
        none = λ n x ms m p. (let l = at (job n (worked.NoPlan x)) m in jobs_complete C st qu file b l.begins l.tables n x ms reads l.history p);
        space = λ n x m le. (let l = at (job n (worked.OutOfSpace x)) m in jobs_roomy C st qu file b l.begins l.tables n x reads le l.history);
        ends = λ n w m. (let l = at (job n w) m in (jobs_end C st qu file b reads).at_end l.begins l.tables n w l.history);
        goes = λ n j m. (let l = at (job n (worked.Searching j)) m in (jobs_end C st qu file b reads).still l.begins l.tables n j l.history);
        surely = λ n budget i j k u m w. (let l = at (job n (worked.Searching j)) m in surely_ends l.begins t u n budget i j k (live_history t n j l) w);
        reopens = λ n w j u m o. (let p = reopened C st qu file b reads cs (job n w) u j m o in (p.once, (p.found, p.is, p.node)));
      }

module _ {K S Q : Type 0} (C : cost.Ghosts K) (st : store.Ghosts S) (qu : queue.Ghosts Q K) where
  pub always_kept : AlwaysKept C st qu
  always_kept file b t js reads cs = kept C st qu file b reads t js cs
