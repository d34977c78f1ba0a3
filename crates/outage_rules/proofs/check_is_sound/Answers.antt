use Rattle.outage_rules.proofs.Checked.{certified}
use Rattle.outage_rules.proofs.check_is_sound.Goals as goal

pub returns : goal.returns
returns c = certified
