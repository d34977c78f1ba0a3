use Rattle.history_rules.proofs.OrderableLemmas
use Rattle.history_rules.proofs.laws.outages_can_be_ordered.Goals as goal

pub returns : goal.returns
returns c = OrderableLemmas.outages_can_be_ordered
