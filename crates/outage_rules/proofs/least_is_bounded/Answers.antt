use Rattle.outage_rules.proofs.Tight
use Rattle.outage_rules.proofs.least_is_bounded.Goals as goal

pub returns : goal.returns
returns c = Tight.least_bounded
