use Rattle.history_rules.proofs.DueLemmas
use Rattle.history_rules.proofs.laws.weights_change_when_due.Goals as goal

pub returns : goal.returns
returns c = DueLemmas.weights_change_when_due
