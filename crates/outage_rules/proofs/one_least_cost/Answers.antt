use Rattle.outage_rules.proofs.Least.{one_least}
use Rattle.outage_rules.proofs.one_least_cost.Goals as goal

pub returns : goal.returns
returns c = one_least
