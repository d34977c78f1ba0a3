-- What kept rows and their total say.
use Rattle.std.specs.Prelude.{◌≡◌, ℕ, ◌<◌, ◌≤◌, true, length, not, is_some}
use Rattle.outage_rules.specs.Network.{Network, IsSound, IsSoundNetwork, nothing, is_live}
use Rattle.outage_rules.specs.Certificate.{Table, IsForest, HasExactRows, bound_of}
use Rattle.outage_rules.specs.Reference.{distance}
use Rattle.grid_model.specs.Parts.{Parts}
use Rattle.grid_model.specs.Places.{is_source}
use Rattle.radial_forest.specs.Traversed.{parent_in}
use Rattle.radial_forest.specs.Spreading.{switched}
use Rattle.subtree_costs.specs.Trees.{depth_in}
use Rattle.subtree_costs.specs.Costed.{Costed, IsCosted, TellsRows, TellsTotal, problem_in, rows_table}
use Rattle.subtree_costs.specs.Reach.{IsReach}

-- each row is the least cost of its part
abbrev pub RowsAreLeast : Type 0
RowsAreLeast = (g : Parts) (c : Costed) → IsCosted g c → TellsRows g c

-- and the total is the least cost over all feasible sets
abbrev pub TotalIsLeast : Type 0
TotalIsLeast = (g : Parts) (c : Costed) → IsCosted g c → TellsTotal g c

-- the rows of the fed nodes
abbrev pub fed_rows : Parts → Costed → Table
fed_rows g c = record (rows_table g c.forest c.rows) { is_listed = λ n. is_live (switched g c.forest.closed) nothing n }

-- they are an exact table of what is posed; each node is as deep as its walk to its source is long, and hangs from a device where it is no source; and the total
-- is the bound that they show
pub record AreFedRows (g : Parts) (c : Costed) : Type 0 where
  pub sound : IsSound (problem_in g c)
  pub forest : IsForest (problem_in g c).net (fed_rows g c)
  pub rows : HasExactRows (problem_in g c) (fed_rows g c)
  pub depth : (n : ℕ) → n < length g.nodes → is_live (switched g c.forest.closed) nothing n ≡ true → depth_in (switched g c.forest.closed) c.forest n ≡ distance (switched g c.forest.closed) n
  pub parents : (n : ℕ) → n < length g.nodes → is_live (switched g c.forest.closed) nothing n ≡ true → is_some (parent_in c.forest.parents n) ≡ not (is_source g n)
  pub bound : c.total ≡ bound_of (problem_in g c) (fed_rows g c)

abbrev pub FedRowsAreExact : Type 0
FedRowsAreExact = (g : Parts) (c : Costed) → IsCosted g c → AreFedRows g c

-- a node's chain of devices up to its root is no longer than its reach
abbrev pub ChainsAreWithinReach : Type 0
ChainsAreWithinReach = (g : Parts) (c : Costed) → IsCosted g c → (n r : ℕ) → n < length g.nodes → IsReach (switched g c.forest.closed) n r → depth_in (switched g c.forest.closed) c.forest n ≤ r

-- each node of a network has a reach
abbrev pub EachNodeHasAReach : Type 0
EachNodeHasAReach = (net : Network) → IsSoundNetwork net → (reach : ℕ → ℕ) × ((n : ℕ) → n < net.nodes → IsReach net n (reach n))
