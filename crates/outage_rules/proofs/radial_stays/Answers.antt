use Rattle.outage_rules.proofs.Closing.{radial_stays}
use Rattle.outage_rules.proofs.radial_stays.Goals as goal

pub returns : goal.returns
returns c = radial_stays
