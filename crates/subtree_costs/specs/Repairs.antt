-- How rows are repaired: a change of one term goes up from node to node, to the root.
use Rattle.std.specs.Prelude.{◌≡◌, ℕ, ◌+◌, ◌<◌, ◌≤◌, Bool, ◌==◌, length, List, slice_index, if◌then◌else◌}
use Rattle.outage_rules.specs.Sum.{total}
use Rattle.outage_rules.specs.Network.{Problem}
use Rattle.outage_rules.specs.Certificate.{Table, is_child, choice, dark_share}
use Rattle.grid_model.specs.Parts.{Parts}
use Rattle.grid_model.specs.Places.{device_at}
use Rattle.grid_model.specs.Problem.{mark_at, problem_of}
use Rattle.radial_forest.specs.Spreading.{switched}
use Rattle.subtree_costs.specs.declared.rows.Row.{Row}
use Rattle.subtree_costs.specs.declared.posed.Posed.{Posed}
use Rattle.subtree_costs.specs.declared.posed.Change.{Change}
use Rattle.subtree_costs.specs.Shares.{share_of, row_at}
use Rattle.subtree_costs.specs.Trees.{rooted_problem, hanger, depth_in}
use Rattle.subtree_costs.specs.Listing.{IsOrder}
use Rattle.subtree_costs.specs.Costed.{Costed, IsPosed, tree_problem, rows_table, root_total}

abbrev pub IsReady : Posed → Type 0
IsReady q = IsPosed q.grid.now q.forest.now q.marks.now q.dark.now q.live.now

abbrev pub problem_at : Posed → Problem
problem_at q = rooted_problem (problem_of q.grid.now q.forest.now.closed q.marks.now q.dark.now q.live.now) q.forest.now

abbrev pub table_at : Posed → List Row → Table
table_at q rows = rows_table q.grid.now q.forest.now rows

-- how many devices lead from a node up to its root
abbrev pub depth_at : Posed → ℕ → ℕ
depth_at q n = depth_in (switched q.grid.now q.forest.now.closed) q.forest.now n

-- what a node with this row adds to the row of the node above it
abbrev pub share_at : Posed → ℕ → Row → Row
share_at q n row =
    share_of (mark_at q.marks.now (hanger q.forest.now.parents n)) (device_at q.grid.now (hanger q.forest.now.parents n)).weight row

-- the row of a node without children
abbrev pub weights_at : Posed → ℕ → Row
weights_at q n = record { live = slice_index q.dark.now n; dark = slice_index q.live.now n }

-- what the children of a node add to its row
abbrev pub children_live : Problem → Table → ℕ → ℕ
children_live p t n = total p.nodes (λ m. if is_child p.net t n m then choice p t m else 0)

abbrev pub children_dark : Problem → Table → ℕ → ℕ
children_dark p t n = total p.nodes (λ m. if is_child p.net t n m then dark_share p t m else 0)

-- each row is what its weight and its children allow, but that where the test holds one term of it is still the old one
pub record AreDue (p : Problem) (t : Table) (here : ℕ → Bool) (before after : Row) : Type 0 where
  pub live : (n : ℕ) → n < p.nodes → t.live_cost n + (if here n then after.live else 0)
      ≡ (p.dark_weight n + children_live p t n) + (if here n then before.live else 0)
  pub dark : (n : ℕ) → n < p.nodes → t.dark_cost n + (if here n then after.dark else 0)
      ≡ (p.live_weight n + children_dark p t n) + (if here n then before.dark else 0)

-- a change of one term of a row that fits 64 bits
pub record IsFitting (c : Change) : Type 0 where
  pub live_before : c.before.live ≤ 3_000_000_000_000
  pub dark_before : c.before.dark ≤ 3_000_000_000_000
  pub live_after : c.after.live ≤ c.before.live + 3_000_000_000_000
  pub dark_after : c.after.dark ≤ c.before.dark + 3_000_000_000_000

pub record IsSmall (row : Row) : Type 0 where
  pub live : row.live ≤ 2_400_000_000_000
  pub dark : row.dark ≤ 2_400_000_000_000

-- the rows of all nodes
abbrev pub AreSmall : Posed → List Row → Type 0
AreSmall q rows = (n : ℕ) → n < length q.grid.now.nodes → IsSmall (row_at rows n)

-- all is right but for one term of the row of a node, which is still the old one
pub record IsDue (g : Parts) (c : Costed) (n : ℕ) (change : Change) : Type 0 where
  pub posed : IsPosed g c.forest c.marks c.dark c.live
  pub rows_each : length c.rows ≡ length g.nodes
  pub small : (m : ℕ) → m < length g.nodes → IsSmall (row_at c.rows m)
  pub fitting : IsFitting change
  pub due : AreDue (tree_problem g c) (rows_table g c.forest c.rows) (λ m. n == m) change.before change.after
  pub total : c.total ≡ root_total g c.forest c.rows
  pub order_each : length c.order ≡ length g.nodes
  pub order : IsOrder (switched g c.forest.closed) c.forest.parents c.order (length c.order)
