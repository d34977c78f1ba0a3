-- Which bounds may be claimed of a network.
use Rattle.std.specs.Prelude.{ℕ, ◌<◌, ◌≤◌, length, All, AllPairs, IfSome}
use Rattle.grid_model.specs.Parts.{Parts}
use Rattle.bound_table.specs.declared.bounds.BoundRow.{BoundRow}
use Rattle.bound_table.specs.Table.{Table}

-- a cost is at most this
abbrev pub most_cost : ℕ
most_cost = 1_000_000_000_000_000

-- a depth is at most this
abbrev pub most_depth : ℕ
most_depth = 1_000_000

-- the node and the device that feeds it are of the network, and the numbers are within their ranges
pub record IsRowOf (g : Parts) (r : BoundRow) : Type 0 where
  pub node : r.node.0 < length g.nodes
  pub parent : IfSome r.parent (λ d. d.0 < length g.devices)
  pub depth : r.depth ≤ most_depth
  pub live : r.live ≤ most_cost
  pub dark : r.dark ≤ most_cost

-- cuts and rows are of the network and ascend by number, and the cost is within its range
pub record IsTableOf (g : Parts) (t : Table) : Type 0 where
  pub cost : t.cost ≤ most_cost
  pub cuts : All (λ d. d.0 < length g.devices) t.cuts
  pub rows : All (IsRowOf g) t.rows
  pub cuts_ascend : AllPairs (λ a b. a.0 < b.0) t.cuts
  pub rows_ascend : AllPairs (λ a b. a.node.0 < b.node.0) t.rows
