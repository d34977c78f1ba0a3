use Rattle.outage_rules.proofs.Tight
use Rattle.outage_rules.proofs.distance_is_bounded.Goals as goal

pub returns : goal.returns
returns c = Tight.distance_bounded
