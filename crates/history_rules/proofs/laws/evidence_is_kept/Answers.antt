use Rattle.history_rules.proofs.SlotLemmas
use Rattle.history_rules.proofs.laws.evidence_is_kept.Goals as goal

pub returns : goal.returns
returns c = SlotLemmas.evidence_is_kept
