-- The lives of the jobs of a call list: all but the last found node 0 at once, and the last one's history led to the tables.
use Rattle.std.proofs.Common.{◌≡◌, ℕ, ◌<◌, ◌≤◌, ◌&&◌, ltb, leb, ◌⊎◌, List, [], ◌∷◌, ◌++◌, length, None, Ok, Err, Option, sym, refl, ap, ◌∙◌, subst, inl, inr, mul-le-mul_right, le-div_iff_mul-le, arith, length-append}
use native.Mathlib.Nat.{le-min}
use Rattle.std.proofs.lemmas.Bool.{and_parts, ltb-true}
use Rattle.rows.specs.Rows.{valued}
use Rattle.rows.specs.Tasks.{Task, Accepted}
use Rattle.task.specs.Files.{Bodies, reading, task_of}
use Rattle.task.proofs.Readings.{read_one}
use Rattle.steps.proofs.Tasks.{accepted}
use Rattle.cost.specs.declared.costs.Cost as cost
use Rattle.store.specs.declared.stores.Store as store
use Rattle.queue.specs.declared.queues.Queue as queue
use Rattle.planning.specs.Lists.{In}
use Rattle.planning.specs.Regressions.{regression}
use Rattle.planning.proofs.Lists.{in_push}
use Rattle.uniform.specs.Runs.{Run, root}
use Rattle.steps.specs.declared.tables.Record.{Record}
use Rattle.steps.specs.declared.tables.Tables.{Tables}
use Rattle.steps.specs.Memories.{Memory, At, memory, width}
use Rattle.steps.specs.Holdings.{Held, Ample}
use Rattle.steps.specs.Begins.{capacity, New}
use Rattle.chains.specs.Chains.{Chain, done, link}
use Rattle.search.specs.declared.jobs.Searching.{Searching}
use Rattle.search.specs.declared.jobs.Found.{Found}
use Rattle.search.specs.declared.jobs.Worked.{Worked}
use Rattle.search.specs.declared.jobs.Worked.TheVariants as worked
use Rattle.search.specs.Works.{Work}
use Rattle.search.specs.declared.jobs.Unworked.TheVariants as work
use Rattle.search.specs.Opens.{Opens}
use Rattle.search.specs.Works.{Works}
use Rattle.follow.specs.Histories.{History, opened, went, idle, torn, capacity_of}
use Rattle.follow.specs.Promises.{AtOnce}
use Rattle.follow.proofs.Places.{at_one}
use Rattle.follow.proofs.Promises.{jobs_defined, jobs_end}
use Rattle.follow.proofs.Uses.{others_use}
use Rattle.promise.specs.Calls.{Job, job, since, Calls, none, opens, declines, works, reads_plan, reads_cost}
use Rattle.promise.proofs.Roots.{Rooted, after_rooted, ends_rooted}

-- an element of a list that ends otherwise: it stands in front of the end, or is the end
in_front : {X : Type 0} (before front : List X) (g l : X) (behind : List X) → before ++ g ∷ behind ≡ front ++ l ∷ [] → In g front ⊎ ((before ≡ front) × (g ≡ l) × (behind ≡ []))
in_front [] [] g l behind e = inr (refl, cc, cc)
in_front [] (x ∷ front) g l behind e = inl (inl (cc))
in_front (y ∷ before) [] g l behind e =
    let t : before ++ g ∷ behind ≡ [] = cc in
    absurd (omega (arith, ap length t, length-append before (g ∷ behind)))
in_front (y ∷ before) (x ∷ front) g l behind e =
    let h : y ≡ x = cc in
    let t : before ++ g ∷ behind ≡ front ++ l ∷ [] = cc in
    elim (in_front before front g l behind t) [
      | inl i ↦ inl (inr i)
      | inr r ↦ inr (ap (λ z. y ∷ z) r.0 ∙ ap (λ z. z ∷ front) h, r.1, r.2)
    ]

-- the chain of node 0 is the same in any records
pub chain_root : {K : Type 0} {m : ℕ} {xs ys : List (Record K)} {n : ℕ} {ns : List ℕ} → n ≡ 0 → Chain xs m n ns → Chain ys m n ns
chain_root e done = done
chain_root e (link l c) = absurd (omega (arith, l.later))

-- tables with space for so many nodes have at least that capacity
ample_within : {K : Type 0} (C : cost.Ghosts K) (task : Task) (cap : ℕ) (s : Memory K) → Accepted task → Ample C task cap s → cap ≤ capacity task s
ample_within C task cap s acc a =
    let u = and_parts (ltb 0 (length task.values) && leb (length task.values) 64) (valued task.values) acc.usable in
    let pos : 0 < width task = ltb-true 0 (width task) (and_parts (ltb 0 (length task.values)) (leb (length task.values) 64) u.0).0 in
    le-min (le-min (le-min (le-min ((le-div_iff_mul-le pos).1 a.bytes) a.records) a.space) a.room) a.short

-- and for fewer too
pub ample_less : {K : Type 0} (C : cost.Ghosts K) (task : Task) (c d : ℕ) (s : Memory K) → c ≤ d → Ample C task d s → Ample C task c s
ample_less C task c d s le a = record {
  short = omega (arith, a.short);
  bytes = omega (arith, mul-le-mul_right (width task) le, a.bytes);
  records = omega (arith, a.records);
  table = a.table;
  space = omega (arith, a.space);
  room = omega (arith, a.room);
}

module _ {K S Q : Type 0} (C : cost.Ghosts K) (st : store.Ghosts S) (qu : queue.Ghosts Q K) (file : List ℕ) (b : Bodies) (reads : reading file ≡ Ok b) where
  -- a job that found node 0, of no more than some capacity
  pub record Past (cap : ℕ) (g : Job) : Type 0 where
    pub begins : Tables K S Q
    pub tables : Tables K S Q
    pub found : Found
    pub is : g.state ≡ worked.Found found
    pub node : found.node ≡ 0
    pub once : g.steps ≡ 1
    pub small : found.progress.capacity ≤ cap
    pub history : History C st qu file begins g.steps tables g.state

  -- the jobs of a list that opened some
  pub record Current (t : Tables K S Q) (js : List Job) : Type 0 where
    pub front : List Job
    pub last : Job
    pub is : js ≡ front ++ last ∷ []
    pub past : (g : Job) → In g front → Past (capacity_of last.state) g
    pub begins : Tables K S Q
    pub history : History C st qu file begins last.steps t last.state

  abbrev pub Lives : Tables K S Q → List Job → Type 0
  Lives t js = (js ≡ []) ⊎ Current t js

  wider : (c d : ℕ) (g : Job) → c ≤ d → Past c g → Past d g
  wider c d g le p = record { begins = p.begins; tables = p.tables; found = p.found; is = p.is; node = p.node; once = p.once; small = omega (arith, p.small); history = p.history }

  -- the nodes stored and the last cover say nothing of the space
  ample_plain : (t : Tables K S Q) (cap n : ℕ) (c : Option ℕ) → Ample C (task_of b) cap (memory st qu t n c) → Ample C (task_of b) cap (memory st qu t 0 None)
  ample_plain t cap n c a = record { short = a.short; bytes = a.bytes; records = a.records; table = a.table; space = a.space; room = a.room }

  -- the tables of a job have space for as many nodes as its capacity says
  pub job_ample : (s t : Tables K S Q) (n : ℕ) (w : Worked) → History C st qu file s n t w → Ample C (task_of b) (capacity_of w) (memory st qu t 0 None)
  job_ample s t n (worked.Searching j) h = ample_plain t j.numbers.progress.capacity j.numbers.progress.stored j.numbers.progress.cover (jobs_defined C st qu file b s t n (worked.Searching j) reads h).3
  job_ample s t n (worked.Found f) h = ample_plain t f.progress.capacity f.progress.stored f.progress.cover (jobs_defined C st qu file b s t n (worked.Found f) reads h).3
  job_ample s t n (worked.NoPlan x) h = ample_plain t x.progress.capacity x.progress.stored x.progress.cover (jobs_defined C st qu file b s t n (worked.NoPlan x) reads h).3
  job_ample s t n (worked.OutOfSpace x) h = ample_plain t x.progress.capacity x.progress.stored x.progress.cover (jobs_defined C st qu file b s t n (worked.OutOfSpace x) reads h).3

  -- the record of node 0 notes the cost of nothing
  abbrev pub Nothing : Tables K S Q → Type 0
  Nothing t = (x : Record K) × At t.records.now 0 x × (C.value x.cost ≡ C.arithmetic.nothing)

  held_nothing : (m : Memory K) (r : Run C.arithmetic (regression (task_of b))) → Held C (task_of b) m r → Rooted C.arithmetic (regression (task_of b)) 0 r → (x : Record K) × At m.records 0 x × (C.value x.cost ≡ C.arithmetic.nothing)
  held_nothing m r h e = let d = h.nodes 0 (root C.arithmetic (regression (task_of b))) e in (d.noted, d.there, d.cost)

  pub job_nothing : (s t : Tables K S Q) (n : ℕ) (w : Worked) → History C st qu file s n t w → Nothing t
  job_nothing s t n (worked.Searching j) h = let d = jobs_defined C st qu file b s t n (worked.Searching j) reads h in held_nothing _ d.0 d.2 (after_rooted C.arithmetic (regression (task_of b)) j.numbers.progress.capacity d.1)
  job_nothing s t n (worked.Found f) h = let d = jobs_defined C st qu file b s t n (worked.Found f) reads h in held_nothing _ d.0 d.2 (ends_rooted C.arithmetic (regression (task_of b)) f.progress.capacity d.1)
  job_nothing s t n (worked.NoPlan x) h = let d = jobs_defined C st qu file b s t n (worked.NoPlan x) reads h in held_nothing _ d.0 d.2 (ends_rooted C.arithmetic (regression (task_of b)) x.progress.capacity d.1)
  job_nothing s t n (worked.OutOfSpace x) h = let d = jobs_defined C st qu file b s t n (worked.OutOfSpace x) reads h in held_nothing _ d.0 d.2 (ends_rooted C.arithmetic (regression (task_of b)) x.progress.capacity d.1)

  -- another job is opened only where the last one found node 0 at once
  now_past : (s t u : Tables K S Q) (g : Job) (j : Searching) → History C st qu file s g.steps t g.state → Opens C st qu file t u (Ok j) → (capacity_of g.state ≤ j.numbers.progress.capacity) × Past j.numbers.progress.capacity g
  now_past s t u g j h o =
      let d = o.0 in
      let e = read_one file d b o.1 reads in
      let once : AtOnce b g.steps g.state = others_use C st qu file b s t g.steps g.state reads h (subst (λ z. New (task_of z) (memory st qu t 0 None)) e o.2.new) in
      let le : capacity_of g.state ≤ capacity (task_of b) (memory st qu t 0 None) = ample_within C (task_of b) (capacity_of g.state) (memory st qu t 0 None) (accepted file b reads) (job_ample s t g.steps g.state h) in
      let is : j.numbers.progress.capacity ≡ capacity (task_of b) (memory st qu t 0 None) = o.2.capacity ∙ ap (λ z. capacity (task_of z) (memory st qu t 0 None)) e in
      let small : capacity_of g.state ≤ j.numbers.progress.capacity = omega arith in (
        small,
        record {
          begins = s;
          tables = t;
          found = once.job;
          is = once.is;
          node = once.node;
          once = once.steps;
          small = (let q : capacity_of g.state ≡ once.job.progress.capacity = ap capacity_of once.is in omega arith);
          history = h;
        },
      )

  -- so every job before did
  pasts : (s t : Tables K S Q) (js : List Job) (j : Searching) → Lives s js → Opens C st qu file s t (Ok j) → (g : Job) → In g js → Past j.numbers.progress.capacity g
  pasts s t js j (inl e) o g i = absurd (subst (λ z. In g z) e i)
  pasts s t js j (inr c) o g i =
      let n = now_past c.begins s t c.last j c.history o in
      elim (in_push g c.last c.front (subst (λ z. In g z) c.is i)) [
        | inl e ↦ subst (λ z. Past j.numbers.progress.capacity z) (sym e) n.1
        | inr k ↦ wider (capacity_of c.last.state) j.numbers.progress.capacity g n.0 (c.past g k)
      ]

  open_lives : (s t : Tables K S Q) (js : List Job) (j : Searching) → Lives s js → Opens C st qu file s t (Ok j) → Current t (js ++ job 0 (worked.Searching j) ∷ [])
  open_lives s t js j l o = record { front = js; last = job 0 (worked.Searching j); is = refl; past = pasts s t js j l o; begins = s; history = opened t j o }

  -- a job keeps its capacity
  keeps_capacity : (s t u : Tables K S Q) (n m : ℕ) (v w : Worked) → History C st qu file s n t v → History C st qu file s m u w → capacity_of v ≡ capacity_of w
  keeps_capacity s t u n m v w h k = let e = jobs_end C st qu file b reads in e.capacity s t n v h ∙ sym (e.capacity s u m w k)

  worked_on : (s t u : Tables K S Q) (n budget : ℕ) (j : Searching) (w : Work) → History C st qu file s n t (worked.Searching j) → Works C st qu file j budget t u w → History C st qu file s (since n w).steps u (since n w).state
  worked_on s t u n budget j (Ok (w, i)) h k = went n budget i t u j w h k
  worked_on s t u n budget j (Err (work.Idle i)) h k = idle n budget t u j i h k
  worked_on s t u n budget j (Err (work.Torn i m)) h k = torn n budget m t u j i h k

  no_past : {X : Type 0} (cap n : ℕ) (j : Searching) → Past cap (job n (worked.Searching j)) → X
  no_past cap n j p = let e : worked.Searching j ≡ worked.Found p.found = p.is in absurd (let z : ◌≡◌ {A = ℕ} 0 1 = cc in omega arith)

  work_lives : (s t : Tables K S Q) (before behind : List Job) (n budget : ℕ) (j : Searching) (w : Work) → Lives s (before ++ job n (worked.Searching j) ∷ behind) → Works C st qu file j budget s t w → Current t (before ++ since n w ∷ behind)
  work_lives s t before behind n budget j w (inl e) k = absurd (omega (arith, ap length e, length-append before (job n (worked.Searching j) ∷ behind)))
  work_lives s t before behind n budget j w (inr c) k =
      elim (in_front before c.front (job n (worked.Searching j)) c.last behind c.is) [
        | inl i ↦ no_past (capacity_of c.last.state) n j (c.past (job n (worked.Searching j)) i)
        | inr r ↦
            let h : History C st qu file c.begins n s (worked.Searching j) = subst (λ z. History C st qu file c.begins z.steps s z.state) (sym r.1) c.history in
            let k' = worked_on c.begins s t n budget j w h k in
            let same : capacity_of c.last.state ≡ capacity_of (since n w).state = ap (λ z. capacity_of z.state) (sym r.1) ∙ keeps_capacity c.begins s t n (since n w).steps (worked.Searching j) (since n w).state h k' in
            record {
              front = before;
              last = since n w;
              is = ap (λ z. before ++ since n w ∷ z) r.2;
              past = λ g i. subst (λ z. Past z g) same (c.past g (subst (λ z. In g z) r.0 i));
              begins = c.begins;
              history = k';
            }
      ]

  pub lives : {t : Tables K S Q} {js : List Job} → Calls C st qu file t js → Lives t js
  lives (none t k w) = inl refl
  lives (opens s t js j cs o) = inr (open_lives s t js j (lives cs) o)
  lives (declines s t js e cs o) = subst (λ z. Lives z js) (sym o.0) (lives cs)
  lives (works s t before behind n budget j w cs k) = inr (work_lives s t before behind n budget j w (lives cs) k)
  lives (reads_plan t js n f out after r cs i p) = lives cs
  lives (reads_cost t js n f r cs i p) = lives cs

  -- a job of a list: its own history, to tables that note the same as those that the list left where the job is read or worked
  pub record Life (t : Tables K S Q) (g : Job) : Type 0 where
    pub begins : Tables K S Q
    pub tables : Tables K S Q
    pub history : History C st qu file begins g.steps tables g.state
    pub ample : Ample C (task_of b) (capacity_of g.state) (memory st qu t 0 None)
    pub live : (j : Searching) → g.state ≡ worked.Searching j → tables ≡ t
    pub there : (f : Found) (m : ℕ) (ms : List ℕ) → g.state ≡ worked.Found f → Chain tables.records.now m f.node ms → Chain t.records.now m f.node ms
    pub back : (f : Found) (m : ℕ) (ms : List ℕ) → g.state ≡ worked.Found f → Chain t.records.now m f.node ms → Chain tables.records.now m f.node ms
    pub cost : (f : Found) (x y : Record K) → g.state ≡ worked.Found f → At t.records.now f.node x → At tables.records.now f.node y → C.value x.cost ≡ C.value y.cost

  last_life : (s t : Tables K S Q) (g : Job) → History C st qu file s g.steps t g.state → Life t g
  last_life s t g h = record {
    begins = s;
    tables = t;
    history = h;
    ample = job_ample s t g.steps g.state h;
    live = λ j e. refl;
    there = λ f m ms e c. c;
    back = λ f m ms e c. c;
    cost = λ f x y e i k. ap (λ z. C.value z.cost) (at_one t.records.now f.node x y i k);
  }

  -- the node that a past job found
  root_found : (cap : ℕ) (g : Job) (p : Past cap g) (f : Found) → g.state ≡ worked.Found f → f.node ≡ 0
  root_found cap g p f e =
      let q : worked.Found f ≡ worked.Found p.found = sym e ∙ p.is in
      let r : f ≡ p.found = cc in
      ap (λ z. z.node) r ∙ p.node

  nothing_at : (t : Tables K S Q) (n : ℕ) (x : Record K) → Nothing t → n ≡ 0 → At t.records.now n x → C.value x.cost ≡ C.arithmetic.nothing
  nothing_at t n x z e i = ap (λ y. C.value y.cost) (at_one t.records.now 0 x z.0 (subst (λ k. At t.records.now k x) e i) z.1) ∙ z.2

  past_life : (s t : Tables K S Q) (n cap : ℕ) (w : Worked) (g : Job) → History C st qu file s n t w → cap ≡ capacity_of w → Past cap g → Life t g
  past_life s t n cap w g h e p = record {
    begins = p.begins;
    tables = p.tables;
    history = p.history;
    ample = ample_less C (task_of b) (capacity_of g.state) (capacity_of w) (memory st qu t 0 None) (let q = ap capacity_of p.is in omega (arith, p.small)) (job_ample s t n w h);
    live = λ j q. (let r : worked.Searching j ≡ worked.Found p.found = sym q ∙ p.is in absurd (let z : ◌≡◌ {A = ℕ} 0 1 = cc in omega arith));
    there = λ f m ms q c. chain_root (root_found cap g p f q) c;
    back = λ f m ms q c. chain_root (root_found cap g p f q) c;
    cost = λ f x y q i k.
        let z = root_found cap g p f q in
        nothing_at t f.node x (job_nothing s t n w h) z i ∙ sym (nothing_at p.tables f.node y (job_nothing p.begins p.tables g.steps g.state p.history) z k);
  }

  -- where another job can be opened, every job before found node 0 at once
  pub reopened : {t : Tables K S Q} {js : List Job} → Calls C st qu file t js → (g : Job) (u : Tables K S Q) (j : Searching) → In g js → Opens C st qu file t u (Ok j) → Past j.numbers.progress.capacity g
  reopened {t} {js} cs g u j i o = pasts t u js j (lives cs) o g i

  pub life : {t : Tables K S Q} {js : List Job} → Calls C st qu file t js → (g : Job) → In g js → Life t g
  life {t} {js} cs g i = go (lives cs)
    where
      go : Lives t js → Life t g
      go (inl e) = absurd (subst (λ z. In g z) e i)
      go (inr c) = elim (in_push g c.last c.front (subst (λ z. In g z) c.is i)) [
        | inl e ↦ subst (λ z. Life t z) (sym e) (last_life c.begins t c.last c.history)
        | inr k ↦ past_life c.begins t c.last.steps (capacity_of c.last.state) c.last.state g c.history refl (c.past g k)
      ]
