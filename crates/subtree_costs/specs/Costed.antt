-- The least costs of the parts at and below the nodes of a forest: what is kept of them, and when it is right.
use Rattle.std.specs.Prelude.{◌≡◌, ℕ, ◌<◌, ◌≤◌, false, List, length, slice_index_or, sum, if◌then◌else◌}
use Rattle.outage_rules.specs.Sum.{total}
use Rattle.outage_rules.specs.Network.{Problem}
use Rattle.outage_rules.specs.Diagnosis.{IsLeastCost}
use Rattle.outage_rules.specs.Certificate.{Table, IsForest, HasExactRows, part_of, dark_cost_of}
use Rattle.grid_model.specs.declared.parts.NodeId.{NodeId}
use Rattle.grid_model.specs.declared.history.Mark.{Mark}
use Rattle.grid_model.specs.declared.history.Mark.TheVariants.{Nothing}
use Rattle.grid_model.specs.Parts.{Parts}
use Rattle.grid_model.specs.Places.{is_source}
use Rattle.grid_model.specs.Sound.{IsSoundParts}
use Rattle.grid_model.specs.Problem.{mark_at, problem_of}
use Rattle.radial_forest.specs.Spreading.{switched}
use Rattle.radial_forest.specs.Forested.{Forested, IsForestOf}
use Rattle.subtree_costs.specs.declared.rows.Row.{Row}
use Rattle.subtree_costs.specs.Shares.{row_at}
use Rattle.subtree_costs.specs.Listing.{IsOrder}
use Rattle.subtree_costs.specs.Trees.{is_top, from_roots, rooted_problem, tree_table}

-- the trees; by number the mark of each device, the dark and the live weight and the row of each node; the least cost of the whole; and an order of all nodes
pub record Costed : Type 0 where
  pub forest : Forested
  pub marks : List Mark
  pub dark : List ℕ
  pub live : List ℕ
  pub rows : List Row
  pub total : ℕ
  pub order : List NodeId

-- what the states, marks and weights pose
abbrev pub problem_in : Parts → Costed → Problem
problem_in g c = problem_of g c.forest.closed c.marks c.dark c.live

-- the same, where the walks begin at the roots: every tree is taken for fed
abbrev pub tree_problem : Parts → Costed → Problem
tree_problem g c = rooted_problem (problem_in g c) c.forest

-- the table of these rows over the trees
abbrev pub rows_table : Parts → Forested → List Row → Table
rows_table g f rows = tree_table (switched g f.closed) f (λ n. (row_at rows n).live) (λ n. (row_at rows n).dark)

-- what the dark reports sum up to at most, and the live ones
abbrev pub most_reported : ℕ
most_reported = 1_000_000_000_000

-- the trees are those of the network; one mark a device, two weights a node; only closed devices are marked
pub record IsWeighed (g : Parts) (f : Forested) (marks : List Mark) (dark live : List ℕ) : Type 0 where
  pub sound : IsSoundParts g
  pub forest : IsForestOf g f.closed f
  pub marks_each : length marks ≡ length g.devices
  pub marked : (d : ℕ) → slice_index_or f.closed d false ≡ false → mark_at marks d ≡ Nothing
  pub dark_each : length dark ≡ length g.nodes
  pub live_each : length live ≡ length g.nodes
  pub dark_bound : sum dark ≤ most_reported
  pub live_bound : sum live ≤ most_reported

-- and each node hangs from the last device of a walk down from a root
pub record IsPosed (g : Parts) (f : Forested) (marks : List Mark) (dark live : List ℕ) : Type 0 where
  pub weighed : IsWeighed g f marks dark live
  pub open weighed use *
  pub trees : IsForest (from_roots (switched g f.closed) f) (tree_table (switched g f.closed) f (λ n. 0) (λ n. 0))

-- what a root comes to by its row: a source by the live cost, and another root by the dark one
abbrev pub root_part : Parts → ℕ → Row → ℕ
root_part g n row = if is_source g n then row.live else row.dark

-- the same of each node that is a root
abbrev pub root_cost : Parts → Forested → List Row → ℕ → ℕ
root_cost g f rows n =
    if is_top f n then root_part g n (row_at rows n) else 0

abbrev pub root_total : Parts → Forested → List Row → ℕ
root_total g f rows = total (length g.nodes) (root_cost g f rows)

-- each row is its node's weight and what the rows of its children and their devices add, the total is that of the roots, and each node stands in the order, behind the one that it hangs from
pub record IsCosted (g : Parts) (c : Costed) : Type 0 where
  pub posed : IsPosed g c.forest c.marks c.dark c.live
  pub rows_each : length c.rows ≡ length g.nodes
  pub exact : HasExactRows (tree_problem g c) (rows_table g c.forest c.rows)
  pub total : c.total ≡ root_total g c.forest c.rows
  pub order_each : length c.order ≡ length g.nodes
  pub order : IsOrder (switched g c.forest.closed) c.forest.parents c.order (length c.order)

-- a row says what the part at and below its node costs at least where the node is live, and what it costs where the node is dark
abbrev pub TellsRow : Parts → Costed → ℕ → Row → Type 0
TellsRow g c n row =
    IsLeastCost (part_of (tree_problem g c) (rows_table g c.forest c.rows) n) row.live
    × (row.dark ≡ dark_cost_of (tree_problem g c) (rows_table g c.forest c.rows) n)

-- the rows of all nodes, fed or not, say so
abbrev pub TellsRows : Parts → Costed → Type 0
TellsRows g c = (n : ℕ) → n < length g.nodes → TellsRow g c n (row_at c.rows n)

-- the total is the least cost over all feasible sets
abbrev pub TellsTotal : Parts → Costed → Type 0
TellsTotal g c = IsLeastCost (problem_in g c) c.total
