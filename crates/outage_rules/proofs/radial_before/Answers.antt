use Rattle.outage_rules.proofs.Loops.{radial_before'}
use Rattle.outage_rules.proofs.radial_before.Goals as goal

pub returns : goal.returns
returns c = λ g k sound l. radial_before' g sound k l
