use Rattle.outage_rules.proofs.Listed.{radial_from_forest}
use Rattle.outage_rules.proofs.forest_is_radial.Goals as goal

pub returns : goal.returns
returns c = λ g t sound forest all. radial_from_forest g t sound forest all
