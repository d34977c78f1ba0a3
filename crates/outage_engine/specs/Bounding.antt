-- The rows that the costs of a network give.
use Rattle.std.specs.Prelude.{◌≡◌, ℕ, ◌<◌, Bool, List, map, filter, length, slice_index}
use Rattle.std.specs.List.{range_with_len}
use Rattle.outage_rules.specs.Network.{nothing, is_live}
use Rattle.grid_model.specs.Parts.{Parts}
use Rattle.bound_table.specs.declared.bounds.BoundRow.{BoundRow}
use Rattle.radial_forest.specs.Traversed.{parent_in}
use Rattle.radial_forest.specs.Spreading.{switched}
use Rattle.subtree_costs.specs.Shares.{row_at}
use Rattle.subtree_costs.specs.Trees.{depth_in}
use Rattle.subtree_costs.specs.Costed.{Costed}

-- closed devices join the node to a source
abbrev pub is_fed : Parts → Costed → ℕ → Bool
is_fed g c n = is_live (switched g c.forest.closed) nothing n

-- by node, how many devices are between it and the root of its tree
pub record AreDepths (g : Parts) (c : Costed) (depths : List ℕ) : Type 0 where
  pub each : length depths ≡ length g.nodes
  pub depth : (n : ℕ) → n < length g.nodes → slice_index depths n ≡ depth_in (switched g c.forest.closed) c.forest n

-- what is kept of a node, with its depth
abbrev pub kept_row : Costed → List ℕ → ℕ → BoundRow
kept_row c depths n = record {
  node = record { 0 = n };
  parent = parent_in c.forest.parents n;
  depth = slice_index depths n;
  live = (row_at c.rows n).live;
  dark = (row_at c.rows n).dark;
}

-- the rows of the fed nodes among so many
abbrev pub kept_rows : Parts → Costed → List ℕ → ℕ → List BoundRow
kept_rows g c depths nodes = map (kept_row c depths) (filter (is_fed g c) (range_with_len 0 nodes))
