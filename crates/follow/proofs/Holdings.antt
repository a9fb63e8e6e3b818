-- Tables that hold a run still hold one after each part of a step.
use Rattle.std.proofs.Common.{◌≡◌, ℕ, zero, suc, ◌*◌, ◌<◌, ◌≤◌, true, false, not, ◌&&◌, ltb, ◌⊎◌, List, [], ◌∷◌, ◌++◌, map, length, Some, sym, refl, ap, ◌∙◌, subst, inl, inr, arith, length-append, length-set}
use Rattle.std.specs.List.Sorted.{IsPermutation}
use Rattle.std.specs.List.{ContainsAt as Has}
use Rattle.std.proofs.lemmas.List.Sorted.{IsPermutation-sym, IsPermutation-trans, length_permutation}
use Rattle.std.proofs.ByRecursion.{has_shuffled, has_append_right}
use Rattle.std.proofs.lemmas.List.{length-map}
use Rattle.std.proofs.lemmas.Bool.{or_parts, and_cases, ltb-false, not_from_false, cases_lt, both_ways}
use Rattle.rows.specs.Rows.{Row, fits, covers}
use Rattle.rows.specs.Tasks.{Task, nth}
use Rattle.cost.specs.declared.costs.Cost as cost
use Rattle.store.specs.Stores as store
use Rattle.queue.specs.declared.entries.Entry.{Entry}
use Rattle.queue.specs.Orders.{Least}
use Rattle.planning.specs.Lists.{In}
use Rattle.planning.specs.Plans.{price}
use Rattle.planning.specs.Regressions.{regression}
use Rattle.planning.proofs.Lists.{nth_some, nth_below, nth_left, nth_push, some_inj}
use Rattle.uniform.specs.Runs.{Node, Run, CoverAt, Uncovered, answered, taken, keeping, storing, child}
use Rattle.uniform.specs.Runs as runs
use Rattle.steps.specs.declared.tables.Record.{Record}
use Rattle.steps.specs.Memories.{Memory, At, width, row_at}
use Rattle.steps.specs.Steps.{Joined, Stored, Taken, Kept, Sound}
use Rattle.steps.specs.Steps as steps
use Rattle.steps.specs.Holdings.{HeldNode, Held, Ample}
use Rattle.follow.proofs.Shuffles.{shuffled_without, shuffled_push, shuffled_map, in_shuffled}
use Rattle.follow.proofs.Parts.{row_within, written_length}
use Rattle.steps.proofs.Parts.{row_below, row_stored}
use Rattle.follow.proofs.Places.{at_set, at_one, nth_get_or, has_in, in_has}
use Rattle.steps.proofs.Moves.{at_other}

-- what stands in a list that is one longer stood there before, or is the last
last_or : {X : Type 0} (xs : List X) (y x : X) (n : ℕ) → nth (xs ++ y ∷ []) n ≡ Some x → ((n ≡ length xs) × (x ≡ y)) ⊎ ((n < length xs) × (nth xs n ≡ Some x))
last_or xs y x n e = elim (cases_lt n (length xs)) [
  | inl l ↦ inr (l, sym (nth_left xs (y ∷ []) n l) ∙ e)
  | inr ge ↦
      (let b = nth_below (xs ++ y ∷ []) n x e in
      let is : n ≡ length xs = omega (arith, length-append xs (y ∷ [])) in
      inl (is, some_inj x y (sym e ∙ nth_push xs y n is)))
]

abbrev number : {K : Type 0} → Entry K → ℕ
number e = e.number

pub has_cons : {X : Type 0} (y : X) (xs : List X) (x : X) → Has (y ∷ xs) x → (y ≡ x) ⊎ Has xs x
has_cons y xs x (zero, lt, at) = inl (at x)
has_cons y xs x (suc k, lt, at) = inr (k, omega arith, at)

module _ {K : Type 0} (C : cost.Ghosts K) (task : Task) where
  -- the kept rows that cover are the same
  pub cover_at : (s : Memory K) (r : Run C.arithmetic (regression task)) (row : Row) (k : ℕ) → Held C task s r → store.CoverAt s.kept row k → CoverAt C.arithmetic (regression task) r.kept row k
  cover_at s r row k h c =
      let f = nth_some s.kept k c.below in
      record {
        by = f.0;
        kept = ap (λ z. nth z k) (sym h.kept) ∙ f.1;
        over = ap (λ z. covers z row) (sym (nth_get_or s.kept k f.0 [] f.1)) ∙ c.over;
      }

  pub uncovered : (s : Memory K) (r : Run C.arithmetic (regression task)) (row : Row) → Held C task s r → store.Uncovered s.kept row → Uncovered C.arithmetic (regression task) r.kept row
  uncovered s r row h u k c =
      let e : nth s.kept k ≡ Some c.by = ap (λ z. nth z k) h.kept ∙ c.kept in
      u k (record { below = nth_below s.kept k c.by e; over = ap (λ z. covers z row) (nth_get_or s.kept k c.by [] e) ∙ c.over })

  pub held_answered : (s : Memory K) (r : Run C.arithmetic (regression task)) (k : ℕ) → Held C task s r → Held C task (steps.answered s k) (answered C.arithmetic (regression task) r k)
  held_answered s r k h = record {
    stored = h.stored;
    nodes = λ n x e. let d = h.nodes n x e in record { row = d.row; noted = d.noted; there = d.there; cost = d.cost; joins = d.joins; parent = d.parent; move = d.move };
    kept = h.kept;
    waiting = h.waiting;
    costs = h.costs;
    cover = refl;
  }

  -- a node is held where bytes and records are the same
  same_node : (s t : Memory K) (n : ℕ) (x : Node C.arithmetic (regression task)) → t.bytes ≡ s.bytes → t.records ≡ s.records → HeldNode C task s n x → HeldNode C task t n x
  same_node s t n x eb er d = record {
    row = ap (λ z. row_at (width task) z n) eb ∙ d.row;
    noted = d.noted;
    there = subst (λ z. At z n d.noted) (sym er) d.there;
    cost = d.cost;
    joins = d.joins;
    parent = d.parent;
    move = d.move;
  }

  pub held_taken : (e : Entry K) (s t : Memory K) (r : Run C.arithmetic (regression task)) → Held C task s r → Taken C task e s t → Held C task t (taken C.arithmetic (regression task) r e.number)
  held_taken e s t r h k = record {
    stored = k.stored ∙ h.stored;
    nodes = λ n x q. same_node s t n x k.bytes k.records (h.nodes n x q);
    kept = k.kept ∙ h.kept;
    waiting = shuffled_without e.number (map number t.waiting) r.waiting
        (IsPermutation-trans (map number (e ∷ t.waiting)) (map number s.waiting) r.waiting (shuffled_map number (e ∷ t.waiting) s.waiting k.rest) h.waiting);
    costs = λ d x has q. h.costs d x (has_shuffled (e ∷ t.waiting) s.waiting d k.rest (has_append_right (e ∷ []) t.waiting d has)) q;
    cover = k.cover ∙ h.cover;
  }

  pub held_kept : (row : Row) (s t : Memory K) (r : Run C.arithmetic (regression task)) → Held C task s r → Kept C task row s t → Held C task t (keeping C.arithmetic (regression task) r row)
  held_kept row s t r h k = record {
    stored = k.stored ∙ h.stored;
    nodes = λ n x q. same_node s t n x k.bytes k.records (h.nodes n x q);
    kept = k.kept ∙ ap (λ z. z ++ row ∷ []) h.kept;
    waiting = subst (λ z. IsPermutation (map number z) r.waiting) (sym k.waiting) h.waiting;
    costs = λ d x has q. h.costs d x (subst (λ z. Has z d) k.waiting has) q;
    cover = k.cover ∙ h.cover;
  }

  pub ample_taken : (cap : ℕ) (e : Entry K) (s t : Memory K) → Ample C task cap s → Taken C task e s t → Ample C task cap t
  ample_taken cap e s t am k = record {
    short = am.short;
    bytes = subst (λ z. cap * width task ≤ length z) (sym k.bytes) am.bytes;
    records = subst (λ z. cap ≤ length z) (sym k.records) am.records;
    table = k.table ∙ am.table;
    space = subst (λ z. cap ≤ z) (sym k.space) am.space;
    room = subst (λ z. cap ≤ z) (sym k.room) am.room;
  }

  pub ample_kept : (cap : ℕ) (row : Row) (s t : Memory K) → Ample C task cap s → Kept C task row s t → Ample C task cap t
  ample_kept cap row s t am k = record {
    short = am.short;
    bytes = subst (λ z. cap * width task ≤ length z) (sym k.bytes) am.bytes;
    records = subst (λ z. cap ≤ length z) (sym k.records) am.records;
    table = k.table ∙ am.table;
    space = subst (λ z. cap ≤ z) (sym k.space) am.space;
    room = subst (λ z. cap ≤ z) (sym k.room) am.room;
  }

  pub ample_answered : (cap : ℕ) (s : Memory K) (k : ℕ) → Ample C task cap s → Ample C task cap (steps.answered s k)
  ample_answered cap s k am = record { short = am.short; bytes = am.bytes; records = am.records; table = am.table; space = am.space; room = am.room }

  pub ample_stored : (cap n m : ℕ) (row : Row) (c : K) (s t : Memory K) → length row ≡ width task → s.stored < cap → Ample C task cap s → Stored C task n m row c s t → Ample C task cap t
  ample_stored cap n m row c s t e lt am k = record {
    short = am.short;
    bytes = (let l = ap length k.bytes ∙ written_length (width task) s.bytes s.stored row e (row_within s.stored cap (width task) (length s.bytes) lt am.bytes) in omega (arith, am.bytes));
    records = (let l = ap length k.records ∙ length-set s.records s.stored _ in omega (arith, am.records));
    table = k.table ∙ am.table;
    space = subst (λ z. cap ≤ z) (sym k.space) am.space;
    room = subst (λ z. cap ≤ z) (sym k.room) am.room;
  }

  -- the number of an entry that waits is one that waits in the run
  pub waits : (s : Memory K) (r : Run C.arithmetic (regression task)) (e : Entry K) → Held C task s r → Has s.waiting e → In e.number r.waiting
  waits s r e h has = in_shuffled e.number (map number s.waiting) r.waiting h.waiting (has_in number s.waiting e has)

  -- and each such number is that of an entry
  pub entered : (s : Memory K) (r : Run C.arithmetic (regression task)) (m : ℕ) → Held C task s r → In m r.waiting → (e : Entry K) × Has s.waiting e × (e.number ≡ m)
  entered s r m h i = in_has number s.waiting m (in_shuffled m r.waiting (map number s.waiting) (IsPermutation-sym (map number s.waiting) r.waiting h.waiting) i)

  -- a row is stored, which means the next node
  pub held_stored : (cap n m : ℕ) (row : Row) (c : K) (s t : Memory K) (r : Run C.arithmetic (regression task)) (x : Node C.arithmetic (regression task)) → length row ≡ width task → s.stored < cap → Ample C task cap s
      → nth r.nodes n ≡ Some x → ((i : ℕ) → In i r.waiting → i < length r.nodes) → Held C task s r → Joined C task s n m c → Stored C task n m row c s t
      → Held C task t (storing C.arithmetic (regression task) r (child C.arithmetic (regression task) n x m row))
  held_stored cap n m row c s t r x e lt am at ws h j k =
      let a = C.arithmetic in
      let p = regression task in
      let y : Node a p = child a p n x m row in
      let within = row_within s.stored cap (width task) (length s.bytes) lt am.bytes in
      let below : s.stored < length s.records = omega (arith, am.records) in
      let note : Record K = record { cost = c; parent = n; step = m } in
      let entry : Entry K = record { cost = c; number = s.stored } in
      let old = h.nodes n x at in
      let first : n < length r.nodes = nth_below r.nodes n x at in
      let same : j.noted ≡ old.noted = at_one s.records n j.noted old.noted j.there old.there in
      let worth : C.value c ≡ y.cost = j.value ∙ ap (λ z. a.joined (a.priced (price task m)) (C.value z.cost)) same ∙ ap (a.joined (a.priced (price task m))) old.cost in
      let few : C.joins c ≤ s.stored = (let q = ap (λ z. C.joins z.cost) same in omega (arith, j.joins, old.joins, h.stored)) in
      let fresh : HeldNode C task t s.stored y = record {
        row = ap (λ z. row_at (width task) z s.stored) k.bytes ∙ row_stored (width task) s.bytes s.stored row e within;
        noted = note;
        there = subst (λ z. At z s.stored note) (sym k.records) (at_set s.records s.stored note below);
        cost = worth;
        joins = few;
        parent = refl;
        move = refl;
      } in
      let kept_node : (i : ℕ) (z : Node a p) → i < length r.nodes → nth r.nodes i ≡ Some z → HeldNode C task t i z = λ i z l q.
      let d = h.nodes i z q in
      let li : i < s.stored = omega (arith, h.stored) in
      record {
        row = ap (λ b. row_at (width task) b i) k.bytes ∙ row_below (width task) s.bytes i s.stored row e li within ∙ d.row;
        noted = d.noted;
        there = subst (λ b. At b i d.noted) (sym k.records) (at_other s.records s.stored i note d.noted li d.there);
        cost = d.cost;
        joins = d.joins;
        parent = d.parent;
        move = d.move;
      } in
      record {
        stored = k.stored ∙ omega (arith, h.stored, length-append r.nodes (y ∷ []));
        nodes = λ i z q. elim (last_or r.nodes y z i q) [
          | inl l ↦ subst (λ w. HeldNode C task t i w) (sym l.1) (subst (λ w. HeldNode C task t w y) (h.stored ∙ sym l.0) fresh)
          | inr l ↦ kept_node i z l.0 l.1
        ];
        kept = k.kept ∙ h.kept;
        waiting =
            (let mapped : IsPermutation (s.stored ∷ map number s.waiting) (map number t.waiting) = shuffled_map number (entry ∷ s.waiting) t.waiting k.waiting in
            subst (λ w. IsPermutation (map number t.waiting) (r.waiting ++ w ∷ [])) h.stored
            (IsPermutation-trans (map number t.waiting) (s.stored ∷ map number s.waiting) (r.waiting ++ s.stored ∷ [])
            (IsPermutation-sym (s.stored ∷ map number s.waiting) (map number t.waiting) mapped)
            (shuffled_push s.stored (map number s.waiting) r.waiting h.waiting)));
        costs = λ d z has q.
            elim (has_cons entry s.waiting d (has_shuffled t.waiting (entry ∷ s.waiting) d (IsPermutation-sym (entry ∷ s.waiting) t.waiting k.waiting) has)) [
              | inl is ↦
                  (let nd : d.number ≡ length r.nodes = ap (λ w. w.number) (sym is) ∙ h.stored in
                  let zy : z ≡ y = some_inj z y (sym q ∙ nth_push r.nodes y d.number nd) in
                  ap (λ w. C.value w.cost) (sym is) ∙ worth ∙ ap (λ w. w.cost) (sym zy))
              | inr there ↦
                  (let ld : d.number < length r.nodes = ws d.number (waits s r d h there) in
                  h.costs d z there (sym (nth_left r.nodes (y ∷ []) d.number ld) ∙ q))
            ];
        cover = k.cover ∙ h.cover;
      }

  -- the entry that the queue names is the least node
  pub least_is : (s : Memory K) (r : Run C.arithmetic (regression task)) (e : Entry K) (x : Node C.arithmetic (regression task)) → Held C task s r → Least C s.waiting e → nth r.nodes e.number ≡ Some x
      → runs.Least C.arithmetic (regression task) r e.number x
  least_is s r e x h l q = record {
    waits = waits s r e h l.there;
    node = q;
    first = λ m y i w.
        let a = C.arithmetic in
        let f = entered s r m h i in
        let d : Entry K = f.0 in
        let cd : C.value d.cost ≡ y.cost = h.costs d y f.1 (ap (nth r.nodes) f.2 ∙ w) in
        let ce : C.value e.cost ≡ x.cost = h.costs e x l.there q in
        let bd = a.before (C.value d.cost) (C.value e.cost) in
        let be = a.before (C.value e.cost) (C.value d.cost) in
        let parts = or_parts bd (not be && ltb d.number e.number) (l.least d f.1) in (
          ap (λ z. a.before z x.cost) (sym cd) ∙ ap (a.before (C.value d.cost)) (sym ce) ∙ parts.0,
          λ tie.
              let nb : be ≡ false = ap (λ z. a.before z (C.value d.cost)) ce ∙ ap (a.before x.cost) cd ∙ tie in
              elim (and_cases (not be) (ltb d.number e.number) parts.1) [
                | inl turned ↦ absurd (both_ways (not be) turned (not_from_false be nb))
                | inr ge ↦ (let g = ltb-false d.number e.number ge in omega (arith, f.2))
              ],
        );
  }

  -- a node is sound
  pub sound_is : (s : Memory K) (r : Run C.arithmetic (regression task)) (n : ℕ) (x : Node C.arithmetic (regression task)) → Held C task s r → nth r.nodes n ≡ Some x → fits task.values x.row ≡ true → Sound C task n s
  sound_is s r n x h q fit =
      let d = h.nodes n x q in
      record {
        node = omega (arith, h.stored, nth_below r.nodes n x q);
        fit = ap (fits task.values) d.row ∙ fit;
        noted = d.noted;
        there = d.there;
        joins = d.joins;
      }

  -- as many entries as numbers wait
  pub as_many : (s : Memory K) (r : Run C.arithmetic (regression task)) → Held C task s r → length s.waiting ≡ length r.waiting
  as_many s r h = sym (length_permutation (map number s.waiting) r.waiting h.waiting ∙ length-map s.waiting number)
