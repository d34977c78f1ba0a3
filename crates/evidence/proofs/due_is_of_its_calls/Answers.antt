use Rattle.evidence.proofs.CallLemmas
use Rattle.evidence.proofs.due_is_of_its_calls.Goals as goal

pub returns : goal.returns
returns c = CallLemmas.due_is_of_its_calls c.weights_stay_until_due.ensures c.weights_change_when_due.ensures
