use Rattle.std.proofs.Common.{◌≡◌, ◌≤◌, length}
use Rattle.radial_forest.specs.Traversed.{node_at}
use Rattle.radial_forest.specs.Spreading.{switched}
use Rattle.subtree_costs.proofs.Listed.{IsListingTo}
use Rattle.subtree_costs.proofs.order.list_below.Given as goal

abbrev pub invariant-loop-d : goal.invariant-loop-d
invariant-loop-d l = record {
  listing : IsListingTo (switched l.grid l.forest.closed) l.forest.parents l.list l.listed l.place l.d-items l.d-index;
  count : l.listed ≤ length l.list;
  node : node_at l.list l.place ≡ l.n.0;
}
