use Rattle.outage_rules.proofs.Tight
use Rattle.outage_rules.proofs.rows_are_bounded.Goals as goal

pub returns : goal.returns
returns c = Tight.rows_bounded
