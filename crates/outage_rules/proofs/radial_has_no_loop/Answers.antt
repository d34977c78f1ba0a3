use Rattle.outage_rules.proofs.Loops.{no_first_loop}
use Rattle.outage_rules.proofs.radial_has_no_loop.Goals as goal

pub returns : goal.returns
returns c = λ g sound. no_first_loop g sound
