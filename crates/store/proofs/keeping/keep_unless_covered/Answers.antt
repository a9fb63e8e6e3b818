use Rattle.std.proofs.Common.{◌≡◌, Err, None, rules, subst}
use Rattle.store.specs.Stores.{CoverFound}
use Rattle.store.proofs.Known.{declined}
use Rattle.store.proofs.keeping.keep_unless_covered.Goals as goal

pub returns-in_err-keep-clause-answer : goal.returns-in_err-keep-clause-answer
returns-in_err-keep-clause-answer g c =
    let s = c.args.s.now in
    let row = c.args.row.now in
    let k = c.in_err-keep.ensures.answer in
    let f = c.in_ok-rank.ensures in
    let n : c.in_ok-rank.rank ≡ None = search rules in
    let none = subst (CoverFound (g.S.Store.kept s) row) n f.1 in
    let e : c.from_residual-in_err-keep.result ≡ Err c.in_err-keep.field-0.0 = search rules in
    rw e (k.0, declined (g.S.Store.table s) (g.S.Store.kept s) (g.S.Store.space s) row c.in_err-keep.field-0.0 f.0 none k.1)
