use Rattle.std.proofs.Common.{◌≤◌, ◌-◌, length}
use Rattle.radial_forest.specs.Spreading.{switched}
use Rattle.radial_forest.specs.Lower.{IsListing}
use Rattle.radial_forest.proofs.forest.Forest.walk_below.Given as goal

abbrev pub invariant-loop-place : goal.invariant-loop-place
invariant-loop-place l = record {
  listing : IsListing (switched l.grid l.self.closed) l.self l.fn.d.0 l.into l.below l.place;
  count : l.below ≤ length l.into;
}

abbrev pub decreases-loop-place : goal.decreases-loop-place
decreases-loop-place l = length l.into - l.place
