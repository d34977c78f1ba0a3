use Rattle.std.proofs.Common.{refl}
use Rattle.subtree_costs.specs.Costed.{tree_problem, rows_table}
use Rattle.subtree_costs.proofs.Kept.{rooted_sound, kept_forest}
use Rattle.subtree_costs.proofs.laws.rows_are_least.Goals as goal

pub returns : goal.returns
returns c = λ g k costed n l.
    c.row_is_least.ensures (tree_problem g k) (rows_table g k.forest k.rows) (rooted_sound g k.forest k.marks k.dark k.live costed.posed) (kept_forest g k costed) costed.exact n l refl
