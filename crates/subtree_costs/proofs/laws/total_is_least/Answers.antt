use Rattle.subtree_costs.proofs.Feeding.{total_least}
use Rattle.subtree_costs.proofs.laws.total_is_least.Goals as goal

pub returns : goal.returns
returns c = λ g k costed.
    total_least g k costed (c.fed_rows_are_exact.ensures g k costed) c.exact_table_is_reference.ensures c.tight_passes.ensures c.least_cost_is_least.ensures
