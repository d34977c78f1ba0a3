use Rattle.std.proofs.Common.{◌≡◌, length}
use Rattle.radial_forest.specs.Spreading.{switched}
use Rattle.subtree_costs.specs.Listing.{AreTops}
use Rattle.subtree_costs.proofs.order.list_tops.Given as goal

abbrev pub invariant-loop-n : goal.invariant-loop-n
invariant-loop-n l = record {
  tops : AreTops (switched l.grid l.forest.closed) l.forest.parents l.list l.count l.n;
  long : length l.list ≡ length l.grid.nodes;
}
