use Rattle.history_rules.proofs.CrewLemmas
use Rattle.history_rules.proofs.laws.crew_order_is_sorted.Goals as goal

pub returns : goal.returns
returns c = CrewLemmas.crew_order_is_sorted
