use Rattle.outage_rules.proofs.Radial.{forest_from_radial}
use Rattle.outage_rules.proofs.radial_is_forest.Goals as goal

pub returns : goal.returns
returns c = forest_from_radial
