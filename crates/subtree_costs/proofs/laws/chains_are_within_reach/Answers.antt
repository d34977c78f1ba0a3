use Rattle.subtree_costs.proofs.Reaching.{depth_reached}
use Rattle.subtree_costs.proofs.laws.chains_are_within_reach.Goals as goal

pub returns : goal.returns
returns c = λ g k costed n r l reach. depth_reached g k costed n l (c.fed_rows_are_exact.ensures g k costed) r reach
