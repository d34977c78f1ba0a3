use Rattle.evidence.proofs.CallLemmas
use Rattle.evidence.proofs.evidence_is_of_its_calls.Goals as goal

pub returns : goal.returns
returns c = CallLemmas.evidence_is_of_its_calls
