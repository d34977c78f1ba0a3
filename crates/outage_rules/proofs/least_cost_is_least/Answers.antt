use Rattle.outage_rules.proofs.Least.{least_is_least}
use Rattle.outage_rules.proofs.least_cost_is_least.Goals as goal

pub returns : goal.returns
returns c = least_is_least
