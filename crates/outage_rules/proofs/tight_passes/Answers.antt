use Rattle.outage_rules.proofs.Tight
use Rattle.outage_rules.proofs.tight_passes.Goals as goal

pub returns : goal.returns
returns c = Tight.tight_passes
