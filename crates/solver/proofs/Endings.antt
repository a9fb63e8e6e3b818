-- A whole search is made of its calls: neither working nor reading is refused torn, and the budget suffices.
use Rattle.std.proofs.Common.{◌≡◌, ℕ, ◌+◌, List, None, Ok, Err, Result, sym, refl, subst, inl, inr, arith}
use Rattle.std.specs.Result.{IsErrAnd}
use Rattle.rows.specs.declared.refusals.Refusal.{Refusal}
use Rattle.cost.specs.declared.costs.Cost as cost
use Rattle.store.specs.declared.stores.Store as store
use Rattle.queue.specs.declared.queues.Queue as queue
use Rattle.steps.specs.declared.tables.Tables.{Tables}
use Rattle.steps.specs.Memories.{memory}
use Rattle.search.specs.declared.jobs.Searching.{Searching}
use Rattle.search.specs.declared.jobs.Found.{Found}
use Rattle.search.specs.declared.jobs.Worked.{Worked}
use Rattle.search.specs.declared.jobs.Worked.TheVariants as worked
use Rattle.search.specs.declared.jobs.Unworked.{Unworked}
use Rattle.search.specs.declared.jobs.Unworked.TheVariants as work
use Rattle.search.specs.Opens.{Opens}
use Rattle.search.specs.Works.{Works}
use Rattle.follow.specs.Histories.{opened}
use Rattle.follow.proofs.Promises.{jobs_never_refused, jobs_end}
use Rattle.promise.proofs.Keeps.{legible}
use Rattle.solver.specs.declared.solutions.Solved.{Solved}
use Rattle.solver.specs.declared.solutions.Solved.TheVariants as solved
use Rattle.solver.specs.Solutions.{Ran, FoundReads, Finishes, Solves, Tells}
use Rattle.solver.proofs.Tells.{life_of, tells}

module _ {K S Q : Type 0} (C : cost.Ghosts K) (st : store.Ghosts S) (qu : queue.Ghosts Q K) (file : List ℕ) where
  -- what both clauses of the whole search say
  pub record Both (s t : Tables K S Q) (out after : List ℕ) (r : Result (Solved K) Refusal) : Type 0 where
    pub calls : Solves C st qu file s t out after r
    pub tells : Tells C file (memory st qu s 0 None) out after r

  both : (s t : Tables K S Q) (out after : List ℕ) (r : Result (Solved K) Refusal) → Solves C st qu file s t out after r → Both s t out after r
  both s t out after r h = record { calls = h; tells = tells C st qu file s t out after r h }

  pub declined : (s t : Tables K S Q) (out : List ℕ) (e : Refusal) → Opens C st qu file s t (Err e) → Both s t out out (Err e)
  declined s t out e o = both s t out out (Err e) (refl, inl o)

  -- what the exit of a `?` returns is the error
  pub declines : (s t : Tables K S Q) (out : List ℕ) (e : Refusal) (r : Result (Solved K) Refusal) → IsErrAnd r (λ x. x ≡ e) → Opens C st qu file s t (Err e) → Both s t out out r
  declines s t out e (Err x) h o = subst (λ z. Both s t out out (Err z)) (sym h) (declined s t out e o)
  declines s t out e (Ok x) h o = absurd h

  pub never_torn : (s m t : Tables K S Q) (j k : Searching) (budget i : ℕ) → Opens C st qu file s m (Ok j) → Works C st qu file j budget m t (Err (work.Torn k i)) → ⊥
  never_torn s m t j k budget i o w = jobs_never_refused C st qu file s m t 0 budget i j k (opened m j o) w

  found_ends : (s t : Tables K S Q) (out after : List ℕ) (f : Found) (r : Result (Solved K) Refusal) → Ran C st qu file s t (worked.Found f) → FoundReads file f t out after r → Solves C st qu file s t out after r
  found_ends s t out after f (Ok (solved.Found k count)) ran h = (f, ran, record { plan = h.1; cost = h.0 })
  found_ends s t out after f (Ok solved.NoPlan) ran h = absurd h
  found_ends s t out after f (Ok solved.OutOfSpace) ran h = absurd h
  found_ends s t out after f (Err e) ran (same, inl c) =
      let b = ran.opens.0 in
      let reads = ran.opens.1 in
      absurd (c.1 _ (legible C st qu file b reads t (0 + ran.steps) f (life_of C st qu file s t b reads f ran)))
  found_ends s t out after f (Err e) ran (same, inr p) =
      let b = ran.opens.0 in
      let reads = ran.opens.1 in
      (same, inr (f, ran, p, (p.0.short _ (legible C st qu file b reads t (0 + ran.steps) f (life_of C st qu file s t b reads f ran))).0))

  worked_ends : (s m t : Tables K S Q) (out after : List ℕ) (j : Searching) (w : Worked) (n : ℕ) (r : Result (Solved K) Refusal) → Opens C st qu file s m (Ok j) → Works C st qu file j 65536 m t (Ok (w, n)) → Finishes file w t out after r → Solves C st qu file s t out after r
  worked_ends s m t out after j (worked.Searching k) n r o w h =
      absurd ((jobs_end C st qu file o.0 o.1).surely s m t 0 65536 n j k (opened m j o) (omega (arith, j.numbers.progress.short)) w)
  worked_ends s m t out after j (worked.Found f) n r o w h = found_ends s t out after f r (record { first = m; job = j; steps = n; opens = o; works = w }) h
  worked_ends s m t out after j (worked.NoPlan x) n r o w h =
      subst (λ z. Solves C st qu file s t out after z) (sym h.0) (x, record { first = m; job = j; steps = n; opens = o; works = w }, h.1)
  worked_ends s m t out after j (worked.OutOfSpace x) n r o w h =
      subst (λ z. Solves C st qu file s t out after z) (sym h.0) (x, record { first = m; job = j; steps = n; opens = o; works = w }, h.1)

  -- a budget that suffices is not 0, and such a working is not refused
  pub never_refused : (s m t : Tables K S Q) (j : Searching) (u : Unworked) (budget : ℕ) → Opens C st qu file s m (Ok j) → budget ≡ 65536 → Works C st qu file j budget m t (Err u) → ⊥
  never_refused s m t j (work.Idle k) budget o e w = omega (arith, e, w.0)
  never_refused s m t j (work.Torn k i) budget o e w = never_torn s m t j k budget i o w

  pub went_ends : (s m t : Tables K S Q) (out after : List ℕ) (j : Searching) (w : Worked) (budget n : ℕ) (r : Result (Solved K) Refusal) → Opens C st qu file s m (Ok j) → Works C st qu file j budget m t (Ok (w, n)) → budget ≡ 65536 → Finishes file w t out after r → Both s t out after r
  went_ends s m t out after j w budget n r o k e h = both s t out after r (worked_ends s m t out after j w n r o (subst (λ z. Works C st qu file j z m t (Ok (w, n))) e k) h)
