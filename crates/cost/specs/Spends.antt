-- The kind Spend, as code over every kind of cost sees it.
use Rattle.cost.specs.declared.costs.Cost as cost
use Rattle.cost.specs.declared.priced.Priced.{Priced}
use Rattle.cost.specs.declared.spend.Sum.{Sum}
use Rattle.cost.specs.contracts.priced.PricedCost.TheImpl as priced
use Rattle.cost.specs.contracts.spend.Sum.{the_row}
use Rattle.cost.specs.contracts.spend.SumKind.TheImpl as kind

-- a cost of this kind in memory
abbrev pub Spent : Type 0
Spent = Priced Sum

-- what the trait's ghost members are for it
abbrev pub spent : cost.Ghosts Spent
spent = priced.ghosts the_row kind.ghosts kind.dict
