use Rattle.std.proofs.Common.{rules, ◌∙◌, arith}
use borrow.Author.Tests.{tests}
use Rattle.std.proofs.lemmas.Iterator.{YieldsList-from_slice, YieldsList-from_zip}
use Rattle.std.proofs.lemmas.Iterator.Search.{all_from_yields_List}
use Rattle.std.proofs.lemmas.Bool.Decides.{nat_tests}
use Rattle.rows.specs.Rows.{covers_at}
use Rattle.rows.proofs.Both.{both_pairs, both_not_length}
use Rattle.rows.proofs.inner.row_covers.Goals as goal

pub returns-then-s-t : goal.returns-then-s-t
returns-then-s-t c =
    all_from_yields_List (λ q. covers_at q.0 q.1) c.all.new.self _ c.all.result c.all.ensures.ran
    (YieldsList-from_zip (YieldsList-from_slice c.args.s.now (cc)) (YieldsList-from_slice c.args.t.now (cc))) (λ x b q k. search (rules, tests))
    ∙ both_pairs covers_at c.args.s.now c.args.t.now (omega arith)

pub returns-else-s-t : goal.returns-else-s-t
returns-else-s-t c = grind (arith, nat_tests, both_not_length)
