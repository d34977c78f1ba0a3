use Rattle.subtree_costs.proofs.Longest.{each_has_a_reach}
use Rattle.subtree_costs.proofs.laws.each_node_has_a_reach.Goals as goal

pub returns : goal.returns
returns c = each_has_a_reach
