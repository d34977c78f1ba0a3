use Rattle.history_rules.proofs.DueLemmas
use Rattle.history_rules.proofs.laws.weights_stay_until_due.Goals as goal

pub returns : goal.returns
returns c = DueLemmas.weights_stay_until_due
