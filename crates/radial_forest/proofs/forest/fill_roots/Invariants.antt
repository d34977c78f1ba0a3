use Rattle.std.proofs.Common.{◌<◌, ℕ}
use Rattle.grid_model.specs.Network.{network_of}
use Rattle.radial_forest.specs.Traversed.{node_at}
use Rattle.radial_forest.specs.Rooting.{HasRootOfUpper}
use Rattle.radial_forest.proofs.forest.fill_roots.Given as goal

abbrev pub invariant-loop-n : goal.invariant-loop-n
invariant-loop-n l = (j : ℕ) → j < l.n-index → HasRootOfUpper (network_of l.grid) l.traversal l.roots (node_at l.n-items j)
