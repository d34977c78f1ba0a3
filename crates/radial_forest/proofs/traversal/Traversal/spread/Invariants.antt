use Rattle.std.proofs.Common.{◌≤◌, ◌-◌, length}
use Rattle.radial_forest.specs.Spreading.{switched, IsPartial, Grows, AreDone}
use Rattle.radial_forest.proofs.traversal.Traversal.spread.Given as goal

abbrev pub invariant-loop-place : goal.invariant-loop-place
invariant-loop-place l = record {
  partial : IsPartial (switched l.grid l.closed) l.self;
  grows : Grows l.initial.self l.self;
  within : l.place ≤ length l.self.order;
  done : AreDone (switched l.grid l.closed) l.self l.place;
}

abbrev pub decreases-loop-place : goal.decreases-loop-place
decreases-loop-place l = length l.grid.nodes - l.place
