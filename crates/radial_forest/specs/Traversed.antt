-- What a traversal says of each node: the order in which the nodes were reached, and from where.
use Rattle.std.specs.Prelude.{◌≡◌, ◌≢◌, ℕ, ◌<◌, true, List, length, slice_index_or, Option, Some, None, is_some, unwrap_or}
use Rattle.outage_rules.specs.Network.{Network}
use Rattle.outage_rules.specs.Certificate.{Table, has_parent, upper, IsRooted, IsWhole}
use Rattle.grid_model.specs.declared.parts.NodeId.{NodeId}
use Rattle.grid_model.specs.declared.parts.DeviceId.{DeviceId}

-- the reached nodes in their order; and by number the parent device and the depth of each node
pub record Traversed : Type 0 where
  pub order : List NodeId
  pub parents : List (Option DeviceId)
  pub depths : List (Option ℕ)

-- the parent device of a node, by a list of them
abbrev pub parent_in : List (Option DeviceId) → ℕ → Option DeviceId
parent_in parents n = slice_index_or parents n None

-- the depth of a node, by a list of them
abbrev pub depth_in : List (Option ℕ) → ℕ → Option ℕ
depth_in depths n = slice_index_or depths n None

-- the number of a device, or 0
abbrev pub number_of_device : Option DeviceId → ℕ
number_of_device None = 0
number_of_device (Some d) = d.0

-- the node at a place of the order
abbrev pub node_at : List NodeId → ℕ → ℕ
node_at order k = (slice_index_or order k (record { 0 = 0 })).0

-- a table that lists the nodes with a depth, with these costs
abbrev pub table_with : List (Option DeviceId) → List (Option ℕ) → (ℕ → ℕ) → (ℕ → ℕ) → Table
table_with parents depths live_cost dark_cost = record {
  is_listed = λ n. is_some (depth_in depths n);
  parent = λ n. number_of_device (parent_in parents n);
  depth = λ n. unwrap_or (depth_in depths n) 0;
  live_cost = live_cost;
  dark_cost = dark_cost;
}

-- the same without costs
abbrev pub table_of : Traversed → Table
table_of t = table_with t.parents t.depths (λ n. 0) (λ n. 0)

-- the order has each listed node once, and each after the one that it hangs from
pub record IsOrder (g : Network) (t : Traversed) : Type 0 where
  pub listed : (k : ℕ) → k < length t.order → (node_at t.order k < g.nodes) × ((table_of t).is_listed (node_at t.order k) ≡ true)
  pub all : (n : ℕ) → n < g.nodes → (table_of t).is_listed n ≡ true → (k : ℕ) × (k < length t.order) × (node_at t.order k ≡ n)
  pub once : (j k : ℕ) → j < k → k < length t.order → node_at t.order j ≢ node_at t.order k
  pub after_upper : (k : ℕ) → k < length t.order → has_parent g (table_of t) (node_at t.order k) ≡ true →
      (j : ℕ) × (j < k) × (node_at t.order j ≡ upper g (table_of t) (node_at t.order k))

-- each reached node but the sources hangs from a reached one, and no closed device leads out of the reached nodes
pub record IsTraversed (g : Network) (t : Traversed) : Type 0 where
  pub parents_each : length t.parents ≡ g.nodes
  pub depths_each : length t.depths ≡ g.nodes
  pub rooted : IsRooted g (table_of t)
  pub whole : IsWhole g (table_of t)
  pub parents : (n : ℕ) → n < g.nodes → is_some (parent_in t.parents n) ≡ has_parent g (table_of t) n
  pub order : IsOrder g t
  pub shallow : (n : ℕ) → n < g.nodes → (table_of t).is_listed n ≡ true → (table_of t).depth n < g.nodes
