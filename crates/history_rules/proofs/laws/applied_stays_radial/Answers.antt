use Rattle.history_rules.proofs.RadialLemmas
use Rattle.history_rules.proofs.laws.applied_stays_radial.Goals as goal

pub returns : goal.returns
returns c = RadialLemmas.applied_stays_radial
