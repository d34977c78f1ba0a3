use Rattle.outage_rules.proofs.Least.{nothing_costs}
use Rattle.outage_rules.proofs.nothing_costs_nothing.Goals as goal

pub returns : goal.returns
returns c = nothing_costs
