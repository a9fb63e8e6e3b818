-- Jobs of two lists of calls find the same.
use Rattle.std.proofs.Common.{◌≡◌, ℕ, ◌≤◌, true, false, List, Ok, sym, refl, ap, ◌∙◌, subst, arith}
use Rattle.std.proofs.lemmas.Bool.{both_ways}
use Rattle.task.specs.Files.{Bodies, move_count, reading}
use Rattle.cost.specs.declared.costs.Cost as cost
use Rattle.store.specs.declared.stores.Store as store
use Rattle.queue.specs.declared.queues.Queue as queue
use Rattle.steps.specs.declared.tables.Tables.{Tables}
use Rattle.search.specs.declared.jobs.Found.{Found}
use Rattle.search.specs.declared.jobs.Worked.{Worked}
use Rattle.search.specs.declared.jobs.Worked.TheVariants as worked
use Rattle.follow.proofs.Repeats.{repeatable}
use Rattle.promise.specs.Calls.{job}
use Rattle.promise.specs.Promises.{Again, AlwaysRepeats}
use Rattle.promise.proofs.Lives.{Life, life}
use Rattle.promise.proofs.Keeps.{front_read, finds, plan_is}
use Rattle.follow.specs.Histories.{ended, capacity_of, Chain}

module _ {K S Q R P : Type 0} (C : cost.Ghosts K) (st : store.Ghosts S) (qu : queue.Ghosts Q K) (st' : store.Ghosts R) (qu' : queue.Ghosts P K) (file : List ℕ) (b : Bodies) (reads : reading file ≡ Ok b) where
  again_found : (t : Tables K S Q) (u : Tables K R P) (n m : ℕ) (f g : Found) → Life C st qu file b reads t (job n (worked.Found f)) → Life C st' qu' file b reads u (job m (worked.Found g)) → f.progress.capacity ≤ g.progress.capacity → Again file t u n m f (worked.Found g)
  again_found t u n m f g l k le =
      let same = (repeatable C st qu st' qu' file b reads).found l.begins l.tables k.begins k.tables n m f (worked.Found g) l.history k.history refl le in
      let is : worked.Found g ≡ worked.Found same.job = same.is in
      let one : same.job ≡ g = cc in
      let here = finds C st qu file b reads t n f l in
      let there = finds C st' qu' file b reads u m g k in
      let alike : here.moves ≡ there.moves = there.only here.moves (subst (λ z. Chain (move_count b) k.tables.records.now z.node here.moves) one (same.moves here.moves here.chain)) in
      record {
        job = g;
        is = refl;
        steps = same.steps;
        stored = ap (λ z. z.progress.stored) (sym one) ∙ same.stored;
        moves = λ count total out after more later r q.
            front_read q.plan more later total q.counted q.written
            ∙ plan_is C st' qu' file b reads u m g k q.plan q.legible
            ∙ sym alike
            ∙ sym (plan_is C st qu file b reads t n f l r.plan r.legible)
            ∙ sym (front_read r.plan out after count r.counted r.written);
      }

  again : (t : Tables K S Q) (u : Tables K R P) (n m : ℕ) (f : Found) (w : Worked) → Life C st qu file b reads t (job n (worked.Found f)) → Life C st' qu' file b reads u (job m w) → ended w ≡ true → f.progress.capacity ≤ capacity_of w → Again file t u n m f w
  again t u n m f (worked.Searching j) l k e le = absurd (both_ways false refl e)
  again t u n m f (worked.Found g) l k e le = again_found t u n m f g l k le
  again t u n m f (worked.NoPlan x) l k e le = other ((repeatable C st qu st' qu' file b reads).found l.begins l.tables k.begins k.tables n m f (worked.NoPlan x) l.history k.history e le).is
    where
      other : {X : Type 0} {g : Found} → worked.NoPlan x ≡ worked.Found g → X
      other q = absurd (let z : ◌≡◌ {A = ℕ} 0 1 = cc in omega arith)
  again t u n m f (worked.OutOfSpace x) l k e le = other ((repeatable C st qu st' qu' file b reads).found l.begins l.tables k.begins k.tables n m f (worked.OutOfSpace x) l.history k.history e le).is
    where
      other : {X : Type 0} {g : Found} → worked.OutOfSpace x ≡ worked.Found g → X
      other q = absurd (let z : ◌≡◌ {A = ℕ} 0 1 = cc in omega arith)

module _ {K S Q R P : Type 0} (C : cost.Ghosts K) (st : store.Ghosts S) (qu : queue.Ghosts Q K) (st' : store.Ghosts R) (qu' : queue.Ghosts P K) where
  pub always_repeats : AlwaysRepeats C st qu st' qu'
  always_repeats file b t js u ks reads cs ds = record {
    found = λ n m f w i k e le. again C st qu st' qu' file b reads t u n m f w (life C st qu file b reads cs (job n (worked.Found f)) i) (life C st' qu' file b reads ds (job m w) k) e le;
    none = λ n m x w i k e le. (
        let l = life C st qu file b reads cs (job n (worked.NoPlan x)) i in
        let r = life C st' qu' file b reads ds (job m w) k in
        (repeatable C st qu st' qu' file b reads).none l.begins l.tables r.begins r.tables n m x w l.history r.history e le);
  }
