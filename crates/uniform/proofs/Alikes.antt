-- Runs of two capacities go alike until the first ends.
use Rattle.std.proofs.Common.{◌≡◌, ℕ, ◌<◌, ◌≤◌, true, false, [], ◌∷◌, ◌++◌, length, Some, sym, refl, ap, ◌∙◌, subst, inl, inr, arith}
use Rattle.std.proofs.lemmas.Bool.{both_ways, cases_eq, cases_lt}
use Rattle.rows.specs.Tasks.{nth}
use Rattle.cost.specs.Costs.{Arithmetic}
use Rattle.planning.specs.Lists.{In}
use Rattle.planning.specs.Spaces.{Space, Lawful}
use Rattle.planning.proofs.Lists.{some_inj, none_some}
use Rattle.uniform.specs.Runs.{Node, Run, CoverAt, Uncovered, Least, taken, keeping, child, without}
use Rattle.uniform.specs.Steps.{Outcome, found, out_of_space, going, One, unmoved, covered, stored, Upto, none, more, Crowded, Step, ends, skips, finds, expands, crowds, After, opening, onward, Ends}
use Rattle.uniform.specs.Promises.{Alike, GoAlike}
use Rattle.uniform.proofs.Endings.{ends_by}

module _ (a : Arithmetic) (p : Space) where
  -- a covered row is not an uncovered one
  clash : {X : Type 0} {s t : Run a p} (q r : p.Row) {rank : ℕ} → Alike s t → q ≡ r → CoverAt a p s.kept q rank → Uncovered a p t.kept r → X
  clash {s = s} {t = t} q r {rank} al e c u =
      absurd (u rank (subst (λ z. CoverAt a p z r rank) al.kept (subst (λ z. CoverAt a p s.kept z rank) e c)))

  back_alike : {s t : Run a p} → Alike s t → Alike t s
  back_alike al = record { nodes = sym al.nodes; kept = sym al.kept; waiting = sym al.waiting }

  one_alike : {c d n m : ℕ} {x : Node a p} {s t u v : Run a p} → Alike s t → One a p c n x m s u → One a p d n x m t v → Alike u v
  one_alike al (unmoved q) (unmoved w) = al
  one_alike al (unmoved q) (covered {r} w k) = none_some r (sym q ∙ w)
  one_alike al (unmoved q) (stored {r} w un lt) = none_some r (sym q ∙ w)
  one_alike al (covered {r} q k) (unmoved w) = none_some r (sym w ∙ q)
  one_alike al (covered q k) (covered w j) = record { nodes = al.nodes; kept = al.kept; waiting = al.waiting }
  one_alike {s = s} {t = t} al (covered {r} q k) (stored {r = h} w un lt) = clash r h al (some_inj r h (sym q ∙ w)) k un
  one_alike al (stored {r} q un lt) (unmoved w) = none_some r (sym w ∙ q)
  one_alike al (stored {r} q un lt) (covered {r = h} w k) = clash h r (back_alike al) (some_inj h r (sym w ∙ q)) k un
  one_alike {n = n} {m = m} {x = x} {s = s} {t = t} al (stored {r} q un lt) (stored {r = h} w uv lu) =
      let e : r ≡ h = some_inj r h (sym q ∙ w) in
      record {
        nodes = ap (λ z. z ++ child a p n x m r ∷ []) al.nodes ∙ ap (λ z. t.nodes ++ child a p n x m z ∷ []) e;
        kept = al.kept;
        waiting = ap (λ z. z ++ length s.nodes ∷ []) al.waiting ∙ ap (λ z. t.waiting ++ length z ∷ []) al.nodes;
      }

  upto_alike : {c d n : ℕ} {x : Node a p} {s t : Run a p} → Alike s t → {m : ℕ} {u : Run a p} → Upto a p c n x s m u → {k : ℕ} {v : Run a p} → Upto a p d n x t k v → m ≡ k → Alike u v
  upto_alike al none none e = al
  upto_alike al none (more us o) e = absurd (omega arith)
  upto_alike al (more us o) none e = absurd (omega arith)
  upto_alike {d = d} {n = n} {x = x} al (more {m} us o) (more {m = k} {t = t} {u = u} vs w) e =
      let q : m ≡ k = omega arith in
      one_alike (upto_alike al us vs q) o (subst (λ z. One a p d n x z t u) (sym q) w)

  -- the moves tried before a later one, and that one
  record At (c n : ℕ) (x : Node a p) (s : Run a p) (m : ℕ) : Type 0 where
    until : Run a p
    next : Run a p
    upto : Upto a p c n x s m until
    one : One a p c n x m until next

  upto_at : {c n : ℕ} {x : Node a p} {s : Run a p} (m : ℕ) {k : ℕ} {u : Run a p} → Upto a p c n x s k u → m < k → At c n x s m
  upto_at m none lt = absurd (omega arith)
  upto_at {c} {n} {x} {s} m (more {m = k} {t = t} {u = u} us o) lt = elim (cases_eq m k) [
    | inl e ↦ subst (λ z. At c n x s z) (sym e) (record { until = t; next = u; upto = us; one = o })
    | inr ne ↦ upto_at m us (omega arith)
  ]

  -- where the lower capacity found space, the higher one does
  roomy : {X : Type 0} {c d n m : ℕ} {x : Node a p} {s t u : Run a p} → c ≤ d → Alike s t → One a p c n x m s u → Crowded a p d x m t → X
  roomy le al (unmoved q) cr = none_some cr.row (sym q ∙ cr.result)
  roomy le al (covered {r} q k) cr = clash r cr.row al (some_inj r cr.row (sym q ∙ cr.result)) k cr.uncovered
  roomy le al (stored q un lt) cr = absurd (omega (arith, cr.full, ap length al.nodes))

  record SameLeast (n m : ℕ) (x y : Node a p) : Type 0 where
    number : n ≡ m
    node : x ≡ y

  least_alike : {n m : ℕ} {x y : Node a p} {s t : Run a p} → Alike s t → Least a p s n x → Least a p t m y → SameLeast n m x y
  least_alike {n} {m} {x} {y} {s} {t} al l k =
      let km : In m s.waiting = subst (λ z. In m z) (sym al.waiting) k.waits in
      let ky : nth s.nodes m ≡ Some y = ap (λ z. nth z m) al.nodes ∙ k.node in
      let ln : In n t.waiting = subst (λ z. In n z) al.waiting l.waits in
      let lx : nth t.nodes n ≡ Some x = ap (λ z. nth z n) (sym al.nodes) ∙ l.node in
      let f = l.first m y km ky in
      let g = k.first n x ln lx in
      let h1 = f.1 g.0 in
      let h2 = g.1 f.0 in
      let e : n ≡ m = omega arith in
      record { number = e; node = some_inj x y (sym l.node ∙ ap (nth s.nodes) e ∙ ky) }

  taken_alike : {n m : ℕ} {s t : Run a p} → Alike s t → n ≡ m → Alike (taken a p s n) (taken a p t m)
  taken_alike {n} {m} {s} {t} al e = record { nodes = al.nodes; kept = al.kept; waiting = ap (without n) al.waiting ∙ ap (λ z. without z t.waiting) e }

  keeping_alike : {s t : Run a p} {x y : Node a p} → Alike s t → x ≡ y → Alike (keeping a p s x.row) (keeping a p t y.row)
  keeping_alike {s} {t} {x} {y} al e = record { nodes = al.nodes; kept = ap (λ z. z ++ x.row ∷ []) al.kept ∙ ap (λ z. t.kept ++ z.row ∷ []) e; waiting = al.waiting }

  -- nothing waits, and something does
  empty : {X : Type 0} {n : ℕ} {x : Node a p} {s t : Run a p} → Alike s t → s.waiting ≡ [] → Least a p t n x → X
  empty {n = n} al e l = absurd (subst (λ z. In n z) e (subst (λ z. In n z) (sym al.waiting) l.waits))

  -- the least node is covered, and is not
  both_least : {X : Type 0} {n m rank : ℕ} {x y : Node a p} {s t : Run a p} → Alike s t → Least a p s n x → Least a p t m y → CoverAt a p s.kept x.row rank → Uncovered a p t.kept y.row → X
  both_least {x = x} {y = y} al l k c u = clash x.row y.row al (ap (λ z. z.row) (least_alike al l k).node) c u

  -- the least node's row holds where a plan may begin, and does not
  both_meet : {X : Type 0} {n m : ℕ} {x y : Node a p} {s t : Run a p} → Alike s t → Least a p s n x → Least a p t m y → p.meets x.row ≡ true → p.meets y.row ≡ false → X
  both_meet {x = x} al l k h f = absurd (both_ways (p.meets x.row) (ap (λ z. p.meets z.row) (least_alike al l k).node ∙ f) h)

  -- the moves tried at the same least node
  same_upto : {d n m k : ℕ} {x y : Node a p} {s t : Run a p} → SameLeast n m x y → Upto a p d m y s k t → Upto a p d n x s k t
  same_upto {d} {n} {m} {k} {x} {y} {s} {t} e us =
      subst (λ z. Upto a p d z x s k t) (sym e.number) (subst (λ z. Upto a p d m z s k t) (sym e.node) us)

  step_alike : {c d : ℕ} {o q : Outcome} {s t u v : Run a p} → c ≤ d → Alike s t → Step a p c s o u → Step a p d t q v → (o ≡ out_of_space → ⊥) → (q ≡ o) × Alike u v
  step_alike le al (ends e) (ends f) no-crowd = (refl, al)
  step_alike le al (ends e) (skips k cv) no-crowd = empty al e k
  step_alike le al (ends e) (finds k un h) no-crowd = empty al e k
  step_alike le al (ends e) (expands k un h us) no-crowd = empty al e k
  step_alike le al (ends e) (crowds k un h us lt cr) no-crowd = empty al e k
  step_alike le al (skips l cv) (ends f) no-crowd = empty (back_alike al) f l
  step_alike le al (skips l cv) (skips k cw) no-crowd =
      let r = taken_alike al (least_alike al l k).number in (refl, record { nodes = r.nodes; kept = r.kept; waiting = r.waiting })
  step_alike le al (skips l cv) (finds k un h) no-crowd = both_least al l k cv un
  step_alike le al (skips l cv) (expands k un h us) no-crowd = both_least al l k cv un
  step_alike le al (skips l cv) (crowds k un h us lt cr) no-crowd = both_least al l k cv un
  step_alike le al (finds l un h) (ends f) no-crowd = empty (back_alike al) f l
  step_alike le al (finds l un h) (skips k cw) no-crowd = both_least (back_alike al) k l cw un
  step_alike le al (finds l un h) (finds k uv g) no-crowd =
      let e = (least_alike al l k).number in (ap found (sym e), taken_alike al e)
  step_alike le al (finds l un h) (expands k uv g us) no-crowd = both_meet al l k h g
  step_alike le al (finds l un h) (crowds k uv g us lt cr) no-crowd = both_meet al l k h g
  step_alike le al (expands l un h us) (ends f) no-crowd = empty (back_alike al) f l
  step_alike le al (expands l un h us) (skips k cw) no-crowd = both_least (back_alike al) k l cw un
  step_alike le al (expands l un h us) (finds k uv g) no-crowd = both_meet (back_alike al) k l g h
  step_alike le al (expands l un h us) (expands k uv g vs) no-crowd =
      let e = least_alike al l k in
      (refl, upto_alike (keeping_alike (taken_alike al e.number) e.node) us (same_upto e vs) refl)
  step_alike {d = d} {v = v} le al (expands l un h us) (crowds {m = m} k uv g vs lt cr) no-crowd =
      let e = least_alike al l k in
      let w = upto_at m us lt in
      roomy le (upto_alike (keeping_alike (taken_alike al e.number) e.node) w.upto (same_upto e vs) refl) w.one (subst (λ z. Crowded a p d z m v) (sym e.node) cr)
  step_alike le al (crowds l un h us lt cr) st no-crowd = absurd (no-crowd refl)

  goes_on : (o : Outcome) → going o ≡ true → o ≡ out_of_space → ⊥
  goes_on o g e = both_ways (going o) (ap going e) g

  after_alike : {c d : ℕ} → c ≤ d → {i : ℕ} {s : Run a p} → After a p c i s → {j : ℕ} {t : Run a p} → After a p d j t → i ≡ j → Alike s t
  after_alike le (opening pos) (opening pos') e = record { nodes = refl; kept = refl; waiting = refl }
  after_alike le (opening pos) (onward bf g st) e = absurd (omega arith)
  after_alike le (onward af g st) (opening pos) e = absurd (omega arith)
  after_alike le (onward {o = o} af g st) (onward bf h sv) e = (step_alike le (after_alike le af bf (omega arith)) st sv (goes_on o g)).1

  -- an earlier step of a run, which did not end it
  record Earlier (c i : ℕ) : Type 0 where
    then : Run a p
    next : Run a p
    how : Outcome
    after : After a p c i then
    step : Step a p c then how next
    goes : going how ≡ true

  after_at : {c : ℕ} (i : ℕ) {k : ℕ} {s : Run a p} → After a p c k s → i < k → Earlier c i
  after_at i (opening pos) lt = absurd (omega arith)
  after_at {c} i (onward {i = k} {o = o} {s = s} {t = t} af g st) lt = elim (cases_eq i k) [
    | inl e ↦ subst (λ z. Earlier c z) (sym e) (record { then = s; next = t; how = o; after = af; step = st; goes = g })
    | inr ne ↦ after_at i af (omega arith)
  ]

  -- the run of the higher capacity does not end while the other goes on
  not_sooner : {c d i j : ℕ} {o q : Outcome} {s t : Run a p} → c ≤ d → (e : Ends a p c i o s) (f : Ends a p d j q t) → f.before < e.before → ⊥
  not_sooner {q = q} le e f lt =
      let w = after_at f.before e.after lt in
      let r = step_alike le (after_alike le w.after f.after refl) w.step f.step (goes_on w.how w.goes) in
      both_ways (going q) f.ended (ap going r.0 ∙ w.goes)

  -- nor does it go on where the other ended with space left
  not_later : {c d i j : ℕ} {o q : Outcome} {s t : Run a p} → c ≤ d → (e : Ends a p c i o s) (f : Ends a p d j q t) → (o ≡ out_of_space → ⊥) → e.before < f.before → ⊥
  not_later {o = o} le e f space lt =
      let w = after_at e.before f.after lt in
      let r = step_alike le (after_alike le e.after w.after refl) e.step w.step space in
      both_ways (going o) e.ended (ap going (sym r.0) ∙ w.goes)

  at_end : {c d : ℕ} → c ≤ d → (i j : ℕ) (o q : Outcome) (s t : Run a p) → Ends a p c i o s → Ends a p d j q t → (o ≡ out_of_space → ⊥) → (j ≡ i) × (q ≡ o) × Alike s t
  at_end le i j o q s t e f space = elim (cases_eq f.before e.before) [
    | inl b ↦ (let r = step_alike le (after_alike le e.after f.after (sym b)) e.step f.step space in (omega (arith, e.count, f.count), r.0, r.1))
    | inr ne ↦ elim (cases_lt f.before e.before) [
      | inl lt ↦ absurd (not_sooner le e f lt)
      | inr ge ↦ absurd (not_later le e f space (omega arith))
    ]
  ]

  has_space : {c i : ℕ} {s : Run a p} → After a p c i s → 0 < c
  has_space (opening pos) = pos
  has_space (onward af g st) = has_space af

module _ (a : Arithmetic) (p : Space) (law : Lawful p) where
  pub go_alike : (c d : ℕ) → c ≤ d → GoAlike a p c d
  go_alike c d le = record {
    still = λ i s t af bf. after_alike a p le af bf refl;
    longer = λ i j o q s t e f. elim (cases_lt f.before e.before) [
      | inl lt ↦ absurd (not_sooner a p le e f lt)
      | inr ge ↦ omega (arith, e.count, f.count)
    ];
    at_end = at_end a p le;
    ends_too = λ i o s e space.
        let pos = has_space a p e.after in
        let r = (ends_by a p law d).some (omega arith) in
        let h = at_end a p le i r.0 o r.1 s r.2 e r.3 space in
        (r.2, subst (λ z. Ends a p d z o r.2) h.0 (subst (λ z. Ends a p d r.0 z r.2) h.1 r.3), h.2);
  }
