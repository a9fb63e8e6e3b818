-- What a job's history leaves: tables that hold a run which goes on, or has ended in the same way.
use Rattle.std.proofs.Common.{◌≡◌, ℕ, ◌+◌, ◌<◌, List, length, None, Ok, Err, sym, ap, ◌∙◌, subst, inl, inr}
use Rattle.task.specs.Files.{Bodies, reading, task_of}
use Rattle.task.proofs.Readings.{read_one}
use Rattle.steps.proofs.Tasks.{accepted}
use Rattle.cost.specs.declared.costs.Cost as cost
use Rattle.store.specs.declared.stores.Store as store
use Rattle.queue.specs.declared.queues.Queue as queue
use Rattle.planning.specs.Regressions.{regression}
use Rattle.uniform.specs.Runs.{Run}
use Rattle.uniform.specs.Steps.{Outcome, found, no_plan, out_of_space, opening}
use Rattle.uniform.specs.Steps as runs
use Rattle.steps.specs.declared.tables.Tables.{Tables}
use Rattle.steps.specs.Memories.{Memory, memory}
use Rattle.steps.specs.Turns.{Ends}
use Rattle.steps.specs.Holdings.{Held, Ample}
use Rattle.search.specs.declared.jobs.Searching.{Searching}
use Rattle.search.specs.declared.jobs.Worked.{Worked}
use Rattle.search.specs.declared.jobs.Worked.TheVariants as worked
use Rattle.search.specs.declared.jobs.Unworked.TheVariants as work
use Rattle.search.specs.Files.{Suits, Shaped}
use Rattle.steps.specs.Begins.{capacity}
use Rattle.search.specs.Opens.{Opened}
use Rattle.search.specs.Works.{standing, WorksOn, Works}
use Rattle.follow.specs.Workings.{Follows}
use Rattle.follow.specs.Histories.{History, opened, went, idle, torn}
use Rattle.follow.proofs.Holdings.{as_many}
use Rattle.follow.proofs.Openings.{opens_hold}
use Rattle.follow.proofs.Workings.{intact, goes, ends}

module _ {K S Q : Type 0} (C : cost.Ghosts K) (st : store.Ghosts S) (qu : queue.Ghosts Q K) (file : List ℕ) (s : Tables K S Q) where
  -- a job that goes on: its tables hold a run that does
  pub record Live (n : ℕ) (t : Tables K S Q) (j : Searching) : Type 0 where
    pub bodies : Bodies
    pub reads : reading file ≡ Ok bodies
    pub shaped : Shaped j.shape bodies
    pub capacity : j.numbers.progress.capacity ≡ capacity (task_of bodies) (memory st qu s 0 None)
    pub ordered : qu.ordered t.queue
    pub run : Run C.arithmetic (regression (task_of bodies))
    pub follows : Follows C (task_of bodies) j.numbers.progress.capacity n (standing st qu t j) run

  -- a job that has ended: its tables hold a run that ended in the same way
  pub record Over (cap n : ℕ) (o : Outcome) (m : Memory K) : Type 0 where
    pub bodies : Bodies
    pub reads : reading file ≡ Ok bodies
    pub capacity : cap ≡ capacity (task_of bodies) (memory st qu s 0 None)
    pub run : Run C.arithmetic (regression (task_of bodies))
    pub ends : runs.Ends C.arithmetic (regression (task_of bodies)) cap n o run
    pub held : Held C (task_of bodies) m run
    pub ample : Ample C (task_of bodies) cap m

  abbrev pub State : ℕ → Tables K S Q → Worked → Type 0
  State n t (worked.Searching j) = Live n t j
  State n t (worked.Found f) = Over f.progress.capacity n (found f.node) (memory st qu t f.progress.stored f.progress.cover) × ((d : Bodies) × Suits file f.shape d)
  State n t (worked.NoPlan x) = Over x.progress.capacity n no_plan (memory st qu t x.progress.stored x.progress.cover)
  State n t (worked.OutOfSpace x) = Over x.progress.capacity n out_of_space (memory st qu t x.progress.stored x.progress.cover)

  opened_live : (b : Bodies) (t : Tables K S Q) (j : Searching) → reading file ≡ Ok b → Opened C st qu b s t j → Live 0 t j
  opened_live b t j read o =
      let task = task_of b in
      let cap = capacity task (memory st qu s 0 None) in
      let h = opens_hold C task (memory st qu s 0 None) (memory st qu t j.numbers.progress.stored j.numbers.progress.cover) (accepted file b read) o.new o.some o.began in
      record {
        bodies = b;
        reads = read;
        shaped = o.shaped;
        capacity = o.capacity;
        ordered = o.ordered;
        run = _;
        follows = record {
          after = opening (subst (λ z. 0 < z) (sym o.capacity) o.some);
          held = h.0;
          ample = subst (λ z. Ample C task z (memory st qu t j.numbers.progress.stored j.numbers.progress.cover)) (sym o.capacity) h.1;
          known = record { keeps = o.kept ∙ sym (ap length h.0.kept); waits = o.waiting ∙ sym (as_many C task (memory st qu t j.numbers.progress.stored j.numbers.progress.cover) _ h.0) };
        };
      }

  -- the file is read as the same task again
  again : (X : Bodies → Type 0) (b d : Bodies) → reading file ≡ Ok b → reading file ≡ Ok d → X d → X b
  again X b d p q x = subst X (read_one file d b q p) x

  over : {n i : ℕ} {t : Tables K S Q} {j : Searching} (l : Live n t j) (cap : ℕ) (o : Outcome) (m : Memory K) → cap ≡ j.numbers.progress.capacity → Ends C (task_of l.bodies) j.numbers.progress.capacity (standing st qu t j) i o m → Over cap (n + i) o m
  over {n} {i} {t} {j} l cap o m e en =
      let task = task_of l.bodies in
      let r = ends C task (accepted file l.bodies l.reads) j.numbers.progress.capacity i o m (l.run, l.follows) en in
      record {
        bodies = l.bodies;
        reads = l.reads;
        capacity = e ∙ l.capacity;
        run = r.0;
        ends = subst (λ z. runs.Ends C.arithmetic (regression task) z (n + i) o r.0) (sym e) r.1;
        held = r.2;
        ample = subst (λ z. Ample C task z m) (sym e) r.3;
      }

  went_state : (n b i : ℕ) (t u : Tables K S Q) (j : Searching) (w : Worked) (l : Live n t j) → WorksOn C st qu (task_of l.bodies) j b t u (Ok (w, i)) → State (n + i) u w
  went_state n b i t u j (worked.Searching k) l h =
      let task = task_of l.bodies in
      let same = h.1 in
      let g = h.2 l.ordered in
      let f = goes C task (accepted file l.bodies l.reads) j.numbers.progress.capacity (l.run, l.follows) g.1 in
      record {
        bodies = l.bodies;
        reads = l.reads;
        shaped = subst (λ z. Shaped z l.bodies) (sym same.shape) l.shaped;
        capacity = same.capacity ∙ l.capacity;
        ordered = g.0;
        run = f.0;
        follows = subst (λ z. Follows C task z (n + i) (standing st qu u k) f.0) (sym same.capacity) f.1;
      }
  went_state n b i t u j (worked.Found f) l h = (
    over l f.progress.capacity (found f.node) (memory st qu u f.progress.stored f.progress.cover) h.1.capacity (h.2 l.ordered).1,
    (l.bodies, record { reads = l.reads; shaped = subst (λ z. Shaped z l.bodies) (sym h.1.shape) l.shaped }),
  )
  went_state n b i t u j (worked.NoPlan x) l h = over l x.progress.capacity no_plan (memory st qu u x.progress.stored x.progress.cover) h.1 (h.2 l.ordered).1
  went_state n b i t u j (worked.OutOfSpace x) l h = over l x.progress.capacity out_of_space (memory st qu u x.progress.stored x.progress.cover) h.1 (h.2 l.ordered).1

  -- the tables are not torn, so the working is not refused
  not_torn : (n b i : ℕ) (t u : Tables K S Q) (j k : Searching) (l : Live n t j) → WorksOn C st qu (task_of l.bodies) j b t u (Err (work.Torn k i)) → ⊥
  not_torn n b i t u j k l h =
      let task = task_of l.bodies in
      let acc = accepted file l.bodies l.reads in
      let g = h.2 l.ordered in
      let f = goes C task acc j.numbers.progress.capacity (l.run, l.follows) g.1 in
      g.2 (intact C task acc j.numbers.progress.capacity f.1)

  pub never_refused : (n b i : ℕ) (t u : Tables K S Q) (j k : Searching) → Live n t j → Works C st qu file j b t u (Err (work.Torn k i)) → ⊥
  never_refused n b i t u j k l (pos, inl w) = w.0 l.bodies (record { reads = l.reads; shaped = l.shaped })
  never_refused n b i t u j k l (pos, inr w) =
      not_torn n b i t u j k l (again (λ d. WorksOn C st qu (task_of d) j b t u (Err (work.Torn k i))) l.bodies w.0 l.reads w.1.reads w.2)

  idle_live : (n : ℕ) (t u : Tables K S Q) (j k : Searching) → Live n t j → k ≡ j → u ≡ t → Live n u k
  idle_live n t u j k l e f = subst (λ z. Live n z k) (sym f) (subst (λ z. Live n t z) (sym e) l)

  pub state : {n : ℕ} {t : Tables K S Q} {w : Worked} → History C st qu file s n t w → State n t w
  state (opened t j o) = opened_live o.0 t j o.1 o.2
  state (went n b i t u j w h k) =
      let l : Live n t j = state h in
      went_state n b i t u j w l (again (λ d. WorksOn C st qu (task_of d) j b t u (Ok (w, i))) l.bodies k.1.0 l.reads k.1.1.reads k.1.2)
  state (idle n b t u j k h w) = idle_live n t u j k (state h) w.1 w.2
  state (torn n b i t u j k h w) = absurd (never_refused n b i t u j k (state h) w)
