use Rattle.outage_rules.proofs.Flags
use Rattle.outage_rules.proofs.flags_are_diagnosis.Goals as goal

pub returns : goal.returns
returns c = λ p t cut is_dark sound forest rows agree. Flags.flags_are_diagnosis p t cut is_dark sound forest rows agree
