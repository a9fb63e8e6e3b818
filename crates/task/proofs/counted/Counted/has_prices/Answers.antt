use Rattle.std.proofs.Common.{ℕ, nat_le, rules, tests, refl, ◌∙◌, arith}
use Rattle.std.proofs.lemmas.Iterator.{YieldsList-from_range, serves_from_Range}
use Rattle.std.proofs.lemmas.Iterator.Search.{all_from_yields_List}
use Rattle.task.specs.Answers.{held}
use Rattle.task.specs.Files.{width, move_count, move_at}
use Rattle.task.proofs.Eaches.{each_is}
use Rattle.task.proofs.counted.Counted.has_prices.Goals as goal

pub all-requires : goal.all-requires
all-requires c = record { can = tt; finite = tt; callable = serves_from_Range (λ x q k. search (rules, tests)) (λ x low high. search rules) }

pub returns : goal.returns
returns c =
    let b = held c.args.self.now.task in
    let fit = λ (k : ℕ). nat_le (move_at (width b) b.moves k).price 1000000000 in
    all_from_yields_List fit _ _ c.all.result c.all.ensures.ran (YieldsList-from_range 0 c.count.result (move_count b) refl (omega (arith, c.count.ensures))) (λ x b q k. search (rules, tests))
    ∙ each_is fit (move_count b)
