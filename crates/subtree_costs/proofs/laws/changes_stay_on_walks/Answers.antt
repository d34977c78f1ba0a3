use Rattle.subtree_costs.proofs.Staying.{stay}
use Rattle.subtree_costs.proofs.laws.changes_stay_on_walks.Goals as goal

pub returns : goal.returns
returns c = λ g k k' places costed costed' change. stay g k k' places costed costed' change
