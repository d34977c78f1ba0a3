use Rattle.outage_rules.proofs.Computed.{computed}
use Rattle.outage_rules.proofs.reference_is_diagnosis.Goals as goal

pub returns : goal.returns
returns c = computed
