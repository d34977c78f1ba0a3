use Rattle.std.proofs.Common.{◌≡◌, ℕ, ◌<◌, ◌≤◌, ◌-◌, length}
use Rattle.radial_forest.specs.Traversed.{node_at}
use Rattle.radial_forest.specs.Spreading.{switched}
use Rattle.subtree_costs.specs.Trees.{depth_in}
use Rattle.subtree_costs.specs.Walks.{node_up}
use Rattle.diagnosis.proofs.settling.list_walk.Given as goal

abbrev pub invariant-loop-d : goal.invariant-loop-d
invariant-loop-d l = record {
  long : length l.walk ≡ length l.grid.nodes;
  room : l.up < length l.walk;
  here : node_at l.walk l.up < length l.grid.nodes;
  up : l.up ≤ depth_in (switched l.grid l.costs.forest.closed) l.costs.forest l.fn.n.0;
  nodes : (k : ℕ) → k ≤ l.up → node_at l.walk k ≡ node_up (switched l.grid l.costs.forest.closed) l.costs.forest.parents k l.fn.n.0;
}

abbrev pub decreases-loop-d : goal.decreases-loop-d
decreases-loop-d l = length l.walk - l.up
