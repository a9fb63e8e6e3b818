use Rattle.std.proofs.Common.{◌+◌, ◌-◌, ◌<◌, ◌≤◌, ◌≢◌, length, ap, ◌∙◌, arith, rules, below_more}
use Rattle.std.proofs.lemmas.List.{get_or-set_same, get_or-set_other, length-set}
use Rattle.rows.specs.Rows.{fits_at}
use Rattle.rows.proofs.Both.{both_length}
use Rattle.trie.specs.Cells.{at, blank, linked}
use Rattle.trie.proofs.Descents.{reach}
use Rattle.trie.proofs.Fills.{short, place, fresh_place, still, hung, rest_byte}
use Rattle.trie.proofs.tries.Trie.add.Goals as goal

pub overflow_sub-k : goal.overflow_sub-k
overflow_sub-k c =
    let e = both_length fits_at c.args.self.now.values.now c.args.row.now c.requires.fit in
    omega (arith, c.requires.fresh)

pub slice_bounds-byte-items-count : goal.slice_bounds-byte-items-count
slice_bounds-byte-items-count c =
    let e = both_length fits_at c.args.self.now.values.now c.args.row.now c.requires.fit in
    omega (arith, c.requires.fresh)

pub slice_bounds-byte-items-start : goal.slice_bounds-byte-items-start
slice_bounds-byte-items-start c =
    let l : c.args.level ≤ length c.args.row.now = slice_bounds-byte-items-count c in
    search rules

pub bounds-self-c : goal.bounds-self-c
bounds-self-c c = let a = c.args.self.now in omega (arith, reach a (omega (arith, c.requires.spare)), c.requires.way.within)

pub offset_bounds-self-c : goal.offset_bounds-self-c
offset_bounds-self-c c =
    let i : c.args.c ≤ 4194241 = omega (arith, short c.args.self.now 0 c.requires.spare (omega arith), c.requires.way.within) in
    search rules

pub cell-requires : goal.cell-requires
cell-requires c =
    let i = place c.args.self.now c.args.row.now c.args.level c.loop-i.i c.requires.fit c.requires.spare (omega (arith, c.loop-i-test.true)) in
    search rules

pub overflow_add-from : goal.overflow_add-from
overflow_add-from c =
    let i = place c.args.self.now c.args.row.now c.args.level c.loop-i.i c.requires.fit c.requires.spare (omega (arith, c.loop-i-test.true)) in
    search rules

pub offset_bounds-self-from : goal.offset_bounds-self-from
offset_bounds-self-from c =
    let i = place c.args.self.now c.args.row.now c.args.level c.loop-i.i c.requires.fit c.requires.spare (omega (arith, c.loop-i-test.true)) in
    search rules

pub bounds-self-from : goal.bounds-self-from
bounds-self-from c =
    omega (arith, fresh_place c.args.self.now c.args.row.now c.args.level c.loop-i.i c.requires.fit c.requires.spare (omega (arith, c.loop-i-test.true)), c.loop-i.invariant.long)

pub invariant_of-self : goal.invariant_of-self
invariant_of-self c =
    let t = still c.loop-i.self (c.args.self.now.used + c.loop-i.i) c.cell.result (omega (arith, c.loop-i.invariant.used)) in
    record { measured = t.measured; inside = t.inside; sound = t.sound }

pub loop-i-preserved : goal.loop-i-preserved
loop-i-preserved c =
    let a = c.args.self.now in
    let s = c.loop-i.self in
    let w = c.loop-i.invariant in
    let i = c.loop-i.i in
    let t : i < length c.args.row.now - c.args.level = omega (arith, c.loop-i-test.true) in
    let h : a.used + i < length s.cells.now = omega (arith, fresh_place a c.args.row.now c.args.level i c.requires.fit c.requires.spare t, w.long) in
    let b = ap (linked (at a.cells.now c.args.c).head a.used (length c.args.row.now - c.args.level) a.count i) (rest_byte c.args.row.now c.args.level i t) in
    record {
      values = w.values;
      space = w.space;
      used = w.used;
      count = w.count;
      lender = w.lender;
      long = length-set _ _ _ ∙ w.long;
      old = λ x l. let ne : x ≢ a.used + i = omega arith in get_or-set_other s.cells.now (a.used + i) x c.cell.result blank ne ∙ w.old x l;
      new = below_more _ _
          (λ j l. let ne : a.used + j ≢ a.used + i = omega arith in get_or-set_other s.cells.now (a.used + i) (a.used + j) c.cell.result blank ne ∙ w.new j l)
          (get_or-set_same s.cells.now (a.used + i) c.cell.result blank h ∙ c.cell.ensures ∙ b);
    }

pub overflow_cast-self : goal.overflow_cast-self
overflow_cast-self c =
    let i = short c.args.self.now 0 c.requires.spare (omega arith) in
    search rules

pub offset_bounds-self-c-2 : goal.offset_bounds-self-c-2
offset_bounds-self-c-2 c =
    let i : c.args.c ≤ 4194241 = omega (arith, short c.args.self.now 0 c.requires.spare (omega arith), c.requires.way.within) in
    search rules

pub bounds-self-c-2 : goal.bounds-self-c-2
bounds-self-c-2 c =
    let a = c.args.self.now in
    omega (arith, reach a (omega (arith, c.requires.spare)), c.requires.way.within, c.loop-i.invariant.long)

pub overflow_add-self : goal.overflow_add-self
overflow_add-self c =
    let a = c.args.self.now in
    let e = both_length fits_at a.values.now c.args.row.now c.requires.fit in
    let i = short a (length c.args.row.now - c.args.level) c.requires.spare (omega arith) in
    search rules

pub invariant_of-self-2 : goal.invariant_of-self-2
invariant_of-self-2 c =
    let a = c.args.self.now in
    let e = both_length fits_at a.values.now c.args.row.now c.requires.fit in
    let h = hung a c.loop-i.self c.args.row.now c.args.c c.args.level (length c.args.row.now - c.args.level) c.loop-i.i
    c.loop-i.invariant (omega (arith, c.loop-i-test.false)) c.requires.spare c.requires.way (omega (arith, c.requires.fresh)) (omega (arith, c.requires.fresh)) c.requires.fit in
    record { measured = h.0.measured; inside = h.0.inside; sound = h.0.sound }

pub returns-clause-added : goal.returns-clause-added
returns-clause-added c =
    let a = c.args.self.now in
    let e = both_length fits_at a.values.now c.args.row.now c.requires.fit in
    let h = hung a c.loop-i.self c.args.row.now c.args.c c.args.level (length c.args.row.now - c.args.level) c.loop-i.i
    c.loop-i.invariant (omega (arith, c.loop-i-test.false)) c.requires.spare c.requires.way (omega (arith, c.requires.fresh)) (omega (arith, c.requires.fresh)) c.requires.fit in
    h.1
