use Rattle.std.proofs.Common.{◌≡◌, ◌<◌, ◌≤◌, ◌-◌, length}
use Rattle.outage_rules.specs.Network.{IsRadial}
use Rattle.outage_rules.specs.Loops.{before}
use Rattle.radial_forest.specs.Spreading.{switched}
use Rattle.radial_forest.proofs.loops.halve.Given as goal

abbrev pub invariant-loop-low : goal.invariant-loop-low
invariant-loop-low l = record {
  each : length l.traversal.depths ≡ length l.grid.nodes;
  apart : l.low < l.high;
  within : l.high ≤ length l.grid.devices;
  radial : IsRadial (before (switched l.grid l.closed) l.low);
  loops : IsRadial (before (switched l.grid l.closed) l.high) → ⊥;
}

abbrev pub decreases-loop-low : goal.decreases-loop-low
decreases-loop-low l = l.high - l.low
