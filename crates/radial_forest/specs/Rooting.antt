-- How the roots follow from a traversal.
use Rattle.std.specs.Prelude.{◌≡◌, ℕ, true, false, List}
use Rattle.outage_rules.specs.Network.{Network}
use Rattle.outage_rules.specs.Certificate.{upper}
use Rattle.grid_model.specs.declared.parts.NodeId.{NodeId}
use Rattle.radial_forest.specs.Traversed.{Traversed, table_of}
use Rattle.radial_forest.specs.Spreading.{hangs}
use Rattle.radial_forest.specs.Forested.{root_in}

-- a node that hangs has the root of the node above it, and another is its own root
pub record HasRootOfUpper (g : Network) (t : Traversed) (roots : List NodeId) (n : ℕ) : Type 0 where
  pub top : hangs t n ≡ false → root_in roots n ≡ n
  pub below : hangs t n ≡ true → root_in roots n ≡ root_in roots (upper g (table_of t) n)
