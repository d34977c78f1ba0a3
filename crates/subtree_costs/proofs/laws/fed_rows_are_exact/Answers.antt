use Rattle.subtree_costs.proofs.Feeding.{are_fed_rows}
use Rattle.subtree_costs.proofs.laws.fed_rows_are_exact.Goals as goal

pub returns : goal.returns
returns c = λ g k costed. are_fed_rows g k costed c.live_is_a_walk.ensures c.exact_table_is_reference.ensures
