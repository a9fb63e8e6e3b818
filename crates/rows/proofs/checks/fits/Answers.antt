use Rattle.std.proofs.Common.{rules, ◌∙◌, arith}
use borrow.Author.Tests.{tests}
use Rattle.std.proofs.lemmas.Iterator.{YieldsList-from_slice, YieldsList-from_zip}
use Rattle.std.proofs.lemmas.Iterator.Search.{all_from_yields_List}
use Rattle.std.proofs.lemmas.Bool.Decides.{nat_tests}
use Rattle.rows.specs.Rows.{fits_at}
use Rattle.rows.proofs.Both.{both_pairs, both_not_length}
use Rattle.rows.proofs.checks.fits.Goals as goal

pub returns-then-row-values : goal.returns-then-row-values
returns-then-row-values c =
    all_from_yields_List (λ q. fits_at q.0 q.1) c.all.new.self _ c.all.result c.all.ensures.ran
    (YieldsList-from_zip (YieldsList-from_slice c.args.values.now (cc)) (YieldsList-from_slice c.args.row.now (cc))) (λ x b q k. search (rules, tests))
    ∙ both_pairs fits_at c.args.values.now c.args.row.now (omega arith)

pub returns-else-row-values : goal.returns-else-row-values
returns-else-row-values c = grind (arith, nat_tests, both_not_length)
