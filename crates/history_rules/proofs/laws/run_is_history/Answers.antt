use Rattle.history_rules.proofs.RunLemmas
use Rattle.history_rules.proofs.laws.run_is_history.Goals as goal

pub returns : goal.returns
returns c = RunLemmas.run_is_history
