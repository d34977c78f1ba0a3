use Rattle.outage_rules.proofs.Tree
use Rattle.outage_rules.proofs.tree_is_radial.Goals as goal

pub returns : goal.returns
returns c = λ g order. (Tree.sound_network g order, Tree.tree_is_radial g order)
