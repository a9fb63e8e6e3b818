use Rattle.std.proofs.Common.{◌*◌, length, sym, refl, arith, rules}
use Rattle.store.specs.Blocks.{length_rows}
use Rattle.store.proofs.Searches.{wide}
use Rattle.store.proofs.Pushes.{more_sound, room}
use Rattle.store.proofs.row_store.RowStoreStore.keep.Goals as goal

pub holds-requires : goal.holds-requires
holds-requires c = wide c.args.self.now.values.now c.args.row.now (sym c.if-not-fits.ensures)

pub returns-then-n-self-clause-answer : goal.returns-then-n-self-clause-answer
returns-then-n-self-clause-answer c =
    let a = c.args.self.now in
    (refl, (sym c.if-not-fits.ensures, c.if-holds.ensures, omega (arith, a.measured, length_rows (length a.values.now) a.count a.bytes.now)))

pub overflow_mul-at : goal.overflow_mul-at
overflow_mul-at c =
    let a = c.args.self.now in
    let r = room a.values.now a.bytes.now c.args.row.now a.space a.count (sym c.if-not-fits.ensures) c.if-n-self.false a.measured in
    omega arith

pub overflow_add-at : goal.overflow_add-at
overflow_add-at c =
    let a = c.args.self.now in
    let r = room a.values.now a.bytes.now c.args.row.now a.space a.count (sym c.if-not-fits.ensures) c.if-n-self.false a.measured in
    omega arith

pub slice_bounds-copy_from_slice-end : goal.slice_bounds-copy_from_slice-end
slice_bounds-copy_from_slice-end c =
    let a = c.args.self.now in
    let r = room a.values.now a.bytes.now c.args.row.now a.space a.count (sym c.if-not-fits.ensures) c.if-n-self.false a.measured in
    search rules

pub invariant_of-self : goal.invariant_of-self
invariant_of-self c =
    let a = c.args.self.now in
    let d = more_sound a.values.now a.bytes.now c.args.row.now c.copy_from_slice.new.self a.space a.count (a.count * length c.args.row.now) _
    (sym c.if-not-fits.ensures) c.if-n-self.false a.measured a.apart a.fit c.if-holds.ensures refl (omega arith) c.copy_from_slice.ensures.after in
    record { measured = d.0.measured; inside = d.0.inside; apart = d.0.apart; fit = d.0.fit }

pub returns-clause-answer : goal.returns-clause-answer
returns-clause-answer c =
    let a = c.args.self.now in
    let f = sym c.if-not-fits.ensures in
    let d = more_sound a.values.now a.bytes.now c.args.row.now c.copy_from_slice.new.self a.space a.count (a.count * length c.args.row.now) _
    f c.if-n-self.false a.measured a.apart a.fit c.if-holds.ensures refl (omega arith) c.copy_from_slice.ensures.after in
    (f, c.if-holds.ensures, omega (arith, a.measured, c.if-n-self.false, length_rows (length a.values.now) a.count a.bytes.now), d.1)
