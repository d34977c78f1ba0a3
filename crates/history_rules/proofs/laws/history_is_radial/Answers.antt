use Rattle.history_rules.proofs.RadialLemmas
use Rattle.history_rules.proofs.laws.history_is_radial.Goals as goal

pub returns : goal.returns
returns c = RadialLemmas.history_is_radial
