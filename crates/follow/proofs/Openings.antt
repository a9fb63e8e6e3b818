-- Opening: new tables in which a job began hold a run as it is opened.
use Rattle.std.proofs.Common.{◌≡◌, ℕ, zero, suc, ◌+◌, ◌*◌, ◌/◌, ◌≤◌, min, [], ◌∷◌, map, length, Some, sym, refl, ap, ◌∙◌, subst, inl, inr, mul-le-mul_right, zero-mul, div-mul-le_self, arith, length-set}
use native.Mathlib.Nat.{min-le_left, min-le_right}
use Rattle.std.specs.List.{ContainsAt as Has}
use Rattle.std.proofs.lemmas.List.Sorted.{IsPermutation-sym}
use Rattle.std.proofs.ByRecursion.{has_shuffled}
use Rattle.rows.specs.Tasks.{Task, nth}
use Rattle.rows.proofs.Both.{both_length}
use Rattle.cost.specs.declared.costs.Cost as cost
use Rattle.queue.specs.declared.entries.Entry.{Entry}
use Rattle.planning.specs.Regressions.{regression}
use Rattle.planning.proofs.Lists.{none_some, some_inj}
use Rattle.uniform.specs.Runs.{root}
use Rattle.steps.specs.declared.tables.Record.{Record}
use Rattle.steps.specs.Memories.{Memory, At, width, row_at, written}
use Rattle.steps.specs.Holdings.{HeldNode}
use Rattle.steps.specs.Begins.{capacity}
use Rattle.follow.specs.Workings.{OpensHold}
use Rattle.follow.proofs.Shuffles.{shuffled_map}
use Rattle.follow.proofs.Parts.{row_within, written_length}
use Rattle.steps.proofs.Parts.{row_stored}
use Rattle.follow.proofs.Places.{at_set}
use Rattle.follow.proofs.Holdings.{has_cons}

-- the number of rows that the bytes hold have space in them, and so has any lower number
rows_within : (cap rows width bytes : ℕ) → rows ≡ bytes / width → cap ≤ rows → cap * width ≤ bytes
rows_within cap rows width bytes e le = omega (arith, mul-le-mul_right width le, ap (λ z. z * width) e, div-mul-le_self bytes width)

module _ {K : Type 0} (task : Task) (s : Memory K) where
  -- the capacity is at most each of what it is the least of
  record Least_of (cap : ℕ) : Type 0 where
    bytes : cap * width task ≤ length s.bytes
    records : cap ≤ length s.records
    space : cap ≤ s.space
    room : cap ≤ s.room
    short : cap ≤ 65535

  least_of : Least_of (capacity task s)
  least_of =
      let rows = length s.bytes / width task in
      let a = min rows (length s.records) in
      let b = min a s.space in
      let c = min b s.room in
      let d = min c 65535 in
      let lc : d ≤ c = min-le_left c 65535 in
      let lb : c ≤ b = min-le_left b s.room in
      let la : b ≤ a = min-le_left a s.space in
      record {
        bytes = rows_within d rows (width task) (length s.bytes) refl (omega (arith, lc, lb, la, min-le_left rows (length s.records)));
        records = omega (arith, lc, lb, la, min-le_right rows (length s.records));
        space = omega (arith, lc, lb, min-le_right a s.space);
        room = omega (arith, lc, min-le_right b s.room);
        short = min-le_right c 65535;
      }

-- the one node of an opened run
only : {X : Type 0} (x y : X) (n : ℕ) → nth (y ∷ []) n ≡ Some x → (n ≡ 0) × (x ≡ y)
only x y zero e = (refl, sym (some_inj y x e))
only x y (suc n) e = none_some x e

-- an entry of a collection of one
only_entry : {X : Type 0} (x y : X) → Has (y ∷ []) x → y ≡ x
only_entry x y h = elim (has_cons y [] x h) [ inl e ↦ e | inr n ↦ absurd (let z = n.1 in omega arith) ]

module _ {K : Type 0} (C : cost.Ghosts K) (task : Task) where
  pub opens_hold : OpensHold C task
  opens_hold s t acc new pos b =
      let a = C.arithmetic in
      let p = regression task in
      let cap = capacity task s in
      let l = least_of task s in
      let long : length task.goal ≡ width task = sym (both_length _ task.values task.goal acc.goal) in
      let none : 0 * width task ≡ 0 = zero-mul (width task) in
      let eb : t.bytes ≡ written s.bytes (0 * width task) task.goal = b.bytes ∙ ap (λ z. written s.bytes z task.goal) (sym none) in
      let within : (0 + 1) * width task ≤ length s.bytes = row_within 0 cap (width task) (length s.bytes) pos l.bytes in
      let entry : Entry K = record { cost = b.cost; number = 0 } in
      let note : Record K = record { cost = b.cost; parent = 0; step = 0 } in
      let first : HeldNode C task t 0 (root a p) = record {
        row = ap (λ z. row_at (width task) z 0) eb ∙ row_stored (width task) s.bytes 0 task.goal long within;
        noted = note;
        there = subst (λ z. At z 0 note) (sym b.records) (at_set s.records 0 note (omega (arith, l.records)));
        cost = b.nothing;
        joins = omega (arith, b.joins);
        parent = refl;
        move = refl;
      } in
      let is : (e : Entry K) → Has t.waiting e → entry ≡ e = λ e h. only_entry e entry (has_shuffled t.waiting (entry ∷ []) e (IsPermutation-sym (entry ∷ []) t.waiting b.waiting) h) in (
        record {
          stored = b.stored;
          nodes = λ n x q. let o = only x (root a p) n q in subst (λ w. HeldNode C task t n w) (sym o.1) (subst (λ w. HeldNode C task t w (root a p)) (sym o.0) first);
          kept = b.kept ∙ new.kept;
          waiting = IsPermutation-sym (0 ∷ []) (map (λ (e : Entry K). e.number) t.waiting) (shuffled_map (λ (e : Entry K). e.number) (entry ∷ []) t.waiting b.waiting);
          costs = λ e x h q. ap (λ w. C.value w.cost) (sym (is e h)) ∙ b.nothing ∙ ap (λ w. w.cost) (sym (only x (root a p) e.number q).1);
          cover = b.cover;
        },
        record {
          short = l.short;
          bytes = (let q = ap length eb ∙ written_length (width task) s.bytes 0 task.goal long within in omega (arith, l.bytes));
          records = (let q = ap length b.records ∙ length-set s.records 0 note in omega (arith, l.records));
          table = b.table ∙ new.table;
          space = subst (λ z. cap ≤ z) (sym b.space) l.space;
          room = subst (λ z. cap ≤ z) (sym b.room) l.room;
        },
      )
