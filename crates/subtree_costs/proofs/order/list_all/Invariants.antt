use Rattle.std.proofs.Common.{◌≤◌, ◌-◌, length}
use Rattle.radial_forest.specs.Spreading.{switched}
use Rattle.subtree_costs.specs.Listing.{IsListing}
use Rattle.subtree_costs.proofs.order.list_all.Given as goal

abbrev pub invariant-loop-place : goal.invariant-loop-place
invariant-loop-place l = record {
  listing : IsListing (switched l.grid l.forest.closed) l.forest.parents l.list l.count l.place;
  count : l.count ≤ length l.list;
}

abbrev pub decreases-loop-place : goal.decreases-loop-place
decreases-loop-place l = length l.list - l.place
