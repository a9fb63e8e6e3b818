-- What a whole search answers, in plain terms.
use Rattle.std.proofs.Common.{◌≡◌, ℕ, ◌+◌, List, [], ◌∷◌, ◌++◌, length, drop, None, Ok, Err, Result, refl, ap, ◌∙◌, subst, inl, inr, arith}
use Rattle.std.proofs.lemmas.Bool.{cases_lt}
use Rattle.rows.specs.declared.refusals.Refusal.{Refusal}
use Rattle.rows.specs.declared.refusals.Refusal.TheVariants.{ShortBuffer}
use Rattle.task.specs.declared.faults.Fault.{Fault}
use Rattle.task.specs.Files.{Bodies, move_count, reading, task_of}
use Rattle.task.proofs.Readings.{read_one}
use Rattle.cost.specs.declared.costs.Cost as cost
use Rattle.store.specs.declared.stores.Store as store
use Rattle.queue.specs.declared.queues.Queue as queue
use Rattle.planning.specs.Regressions.{regression}
use Rattle.uniform.specs.Runs.{Reads}
use Rattle.uniform.specs.Steps.{found, no_plan, out_of_space, Ends}
use Rattle.uniform.proofs.Goods.{found_cheapest}
use Rattle.uniform.proofs.Chains.{reads_length}
use Rattle.steps.specs.declared.tables.Tables.{Tables}
use Rattle.steps.specs.Memories.{memory}
use Rattle.steps.specs.Begins.{capacity, New}
use Rattle.steps.proofs.Tasks.{move_count_lem}
use Rattle.chains.specs.Chains.{Chain}
use Rattle.search.specs.declared.jobs.Found.{Found}
use Rattle.search.specs.declared.jobs.NoPlan.{NoPlan}
use Rattle.search.specs.declared.jobs.OutOfSpace.{OutOfSpace}
use Rattle.search.specs.declared.jobs.Worked.{Worked}
use Rattle.search.specs.declared.jobs.Worked.TheVariants as worked
use Rattle.search.specs.Opens.{Opens}
use Rattle.search.specs.Reads.{ReadsPlan}
use Rattle.follow.specs.Histories.{History, opened, went, capacity_of}
use Rattle.follow.specs.Promises.{Finds, most}
use Rattle.follow.proofs.Chains.{chain_of}
use Rattle.follow.proofs.Promises.{law, jobs_defined, jobs_complete, jobs_roomy, jobs_end}
use Rattle.promise.specs.Calls.{job, Calls, none, opens, works}
use Rattle.promise.proofs.Noted.{noted_chain, chain_noted}
use Rattle.promise.proofs.Lives.{Life, life}
use Rattle.promise.proofs.Keeps.{finds, legible, plan_is, cost_is}
use Rattle.solver.specs.declared.solutions.Solved.{Solved}
use Rattle.solver.specs.declared.solutions.Solved.TheVariants as solved
use Rattle.solver.specs.Solutions.{Ran, BothRead, Solves, Solution, Found_told, None_told, Space_told, Unsolved, Tells}

module _ {K S Q : Type 0} (C : cost.Ghosts K) (st : store.Ghosts S) (qu : queue.Ghosts Q K) (file : List ℕ) (s t : Tables K S Q) where
  -- the search as a list of two calls
  pub calls : (w : Worked) (r : Ran C st qu file s t w) → Calls C st qu file t (job (0 + r.steps) w ∷ [])
  calls w r = works r.first t [] [] 0 65536 r.job (Ok (w, r.steps)) (opens s r.first [] r.job (none s r.opens.2.new.kept r.opens.2.new.waiting) r.opens) r.works

  history : (w : Worked) (r : Ran C st qu file s t w) → History C st qu file s (0 + r.steps) t w
  history w r = went 0 65536 r.steps r.first t r.job w (opened r.first r.job r.opens) r.works

  module _ (b : Bodies) (reads : reading file ≡ Ok b) where
    pub capacity_is : (w : Worked) (r : Ran C st qu file s t w) → capacity_of w ≡ capacity (task_of b) (memory st qu s 0 None)
    capacity_is w r = (jobs_end C st qu file b reads).capacity s t (0 + r.steps) w (history w r)

    abbrev pub life_of : (f : Found) (r : Ran C st qu file s t (worked.Found f)) → Life C st qu file b reads t (job (0 + r.steps) (worked.Found f))
    life_of f r = life C st qu file b reads (calls (worked.Found f) r) (job (0 + r.steps) (worked.Found f)) (inl refl)

    abbrev noted : (f : Found) (r : Ran C st qu file s t (worked.Found f)) → Finds C b (life_of f r).tables.records.now f.node
    noted f r = finds C st qu file b reads t (0 + r.steps) f (life_of f r)

    -- the moves that a found job notes are those of the run
    solution : (f : Found) (r : Ran C st qu file s t (worked.Found f)) → Solution C b (capacity (task_of b) (memory st qu s 0 None)) (noted f r).moves
    solution f r =
        let d = jobs_defined C st qu file b s t (0 + r.steps) (worked.Found f) reads (history (worked.Found f) r) in
        let a = C.arithmetic in
        let p = regression (task_of b) in
        let e = capacity_is (worked.Found f) r in
        let c = found_cheapest a p (law C file b reads).lawful f.progress.capacity (0 + r.steps) f.node d.0 d.1 in
        let chain : Chain t.records.now (move_count b) f.node c.moves = subst (λ z. Chain t.records.now z f.node c.moves) (move_count_lem b) (noted_chain (chain_of C (task_of b) (memory st qu t f.progress.stored f.progress.cover) d.0 d.2 c.reads)) in
        let is : c.moves ≡ (noted f r).moves = (noted f r).only c.moves (chain_noted ((life_of f r).back f (move_count b) c.moves refl chain)) in
        let read : Reads a p d.0.nodes f.node (noted f r).moves = subst (λ z. Reads a p d.0.nodes f.node z) is c.reads in
        record {
          node = f.node;
          ended = record { steps = 0 + r.steps; run = d.0; ends = subst (λ z. Ends a p z (0 + r.steps) (found f.node) d.0) e d.1 };
          reads = read;
          cheapest = (noted f r).cheapest;
          few = omega (arith, reads_length a p read, f.below, f.progress.within, e);
        }

  told_found : (out after : List ℕ) (k : K) (count : ℕ) (f : Found) → Ran C st qu file s t (worked.Found f) → BothRead C st qu file f t out after k count → Found_told C file (memory st qu s 0 None) out after k count
  told_found out after k count f r both =
      let b = r.opens.0 in
      let reads = r.opens.1 in
      let p = both.plan in
      let l = life_of b reads f r in
      let is : p.plan ≡ (noted b reads f r).moves = plan_is C st qu file b reads t (0 + r.steps) f l p.plan p.legible in
      record {
        bodies = b;
        reads = reads;
        plan = (noted b reads f r).moves;
        solution = solution b reads f r;
        cost = cost_is C st qu file b reads t (0 + r.steps) f l k both.cost;
        counted = p.counted ∙ ap length is;
        fits = p.fits;
        written = p.written ∙ ap (λ z. z ++ drop count out) is;
      }

  told_none : (x : NoPlan) → Ran C st qu file s t (worked.NoPlan x) → None_told C file (memory st qu s 0 None)
  told_none x r =
      let b = r.opens.0 in
      let reads = r.opens.1 in
      let h = history (worked.NoPlan x) r in
      let d = jobs_defined C st qu file b s t (0 + r.steps) (worked.NoPlan x) reads h in
      record {
        bodies = b;
        reads = reads;
        ended = record { steps = 0 + r.steps; run = d.0; ends = subst (λ z. Ends C.arithmetic (regression (task_of b)) z (0 + r.steps) no_plan d.0) (capacity_is b reads (worked.NoPlan x) r) d.1 };
        none = λ ms p. jobs_complete C st qu file b s t (0 + r.steps) x ms reads h p;
      }

  told_space : (x : OutOfSpace) → Ran C st qu file s t (worked.OutOfSpace x) → Space_told C file (memory st qu s 0 None)
  told_space x r =
      let b = r.opens.0 in
      let reads = r.opens.1 in
      let h = history (worked.OutOfSpace x) r in
      let d = jobs_defined C st qu file b s t (0 + r.steps) (worked.OutOfSpace x) reads h in
      let e = capacity_is b reads (worked.OutOfSpace x) r in
      record {
        bodies = b;
        reads = reads;
        ended = record { steps = 0 + r.steps; run = d.0; ends = subst (λ z. Ends C.arithmetic (regression (task_of b)) z (0 + r.steps) out_of_space d.0) e d.1 };
        few = elim (cases_lt (capacity (task_of b) (memory st qu s 0 None)) (1 + most b)) [
          | inl lt ↦ lt
          | inr ge ↦ absurd (jobs_roomy C st qu file b s t (0 + r.steps) x reads (omega (arith, e, ge)) h)
        ];
      }

  -- opening was refused
  told_declined : (out : List ℕ) (e : Refusal) → Opens C st qu file s t (Err e) → Unsolved C file (memory st qu s 0 None) out e
  told_declined out e o = record {
    bad = o.1.bad;
    used = λ b r n. (o.1.unfit b r).used n;
    empty = λ b r n z. ((o.1.unfit b r).full n).0;
    short = λ b r n pos. absurd (omega (arith, ((o.1.unfit b r).full n).1, pos));
  }

  -- the buffer was too short
  told_short : (out after : List ℕ) (e : Refusal) (f : Found) → Ran C st qu file s t (worked.Found f) → ReadsPlan file f t out (Err e) after → e ≡ ShortBuffer → Unsolved C file (memory st qu s 0 None) out e
  told_short out after e f r p is =
      let d = r.opens.0 in
      let reads = r.opens.1 in
      record {
        bad = λ x. absurd (other x.0 d x.1 reads);
        used = λ b q n. absurd (n (subst (λ z. New (task_of z) (memory st qu s 0 None)) (read_one file d b reads q) r.opens.2.new));
        empty = λ b q n z. absurd (omega (arith, r.opens.2.some, ap (λ y. capacity (task_of y) (memory st qu s 0 None)) (read_one file d b reads q), z));
        short = λ b q n pos. (is, ((noted b q f r).moves, solution b q f r, (p.0.short (noted b q f r).moves (legible C st qu file b q t (0 + r.steps) f (life_of b q f r))).1));
      }
    where
      other : (x : Fault) (b : Bodies) → reading file ≡ Err x → reading file ≡ Ok b → ⊥
      other x b i k = let z : ◌≡◌ {A = ℕ} 0 1 = cc in omega arith

  pub tells : (out after : List ℕ) (r : Result (Solved K) Refusal) → Solves C st qu file s t out after r → Tells C file (memory st qu s 0 None) out after r
  tells out after (Ok (solved.Found k count)) h = told_found out after k count h.0 h.1 h.2
  tells out after (Ok solved.NoPlan) h = (told_none h.0 h.1, h.2)
  tells out after (Ok solved.OutOfSpace) h = (told_space h.0 h.1, h.2)
  tells out after (Err e) (same, inl o) = (told_declined out e o, same)
  tells out after (Err e) (same, inr r) = (told_short out after e r.0 r.1 r.2 r.3, same)
