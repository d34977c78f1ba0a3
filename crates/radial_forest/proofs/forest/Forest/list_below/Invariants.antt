use Rattle.std.proofs.Common.{◌≡◌, ℕ, ◌≤◌, length}
use Rattle.radial_forest.specs.Traversed.{node_at}
use Rattle.radial_forest.specs.Spreading.{switched}
use Rattle.radial_forest.specs.Lower.{IsListing}
use Rattle.radial_forest.proofs.ListingSteps.{IsListingTo}
use Rattle.radial_forest.proofs.forest.Forest.list_below.Given as goal

abbrev pub invariant-loop-e : goal.invariant-loop-e
invariant-loop-e l = record {
  listing : (d : ℕ) → IsListing (switched l.grid l.self.closed) l.self d l.initial.into l.count l.place → IsListingTo (switched l.grid l.self.closed) l.self d l.into l.listed l.place l.e-items l.e-index;
  count : l.listed ≤ length l.into;
  node : node_at l.into l.place ≡ l.n.0;
}
