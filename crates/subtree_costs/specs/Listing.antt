-- Lists of nodes, each after the node that it hangs from.
use Rattle.std.specs.Prelude.{◌≡◌, ◌≢◌, ℕ, ◌<◌, ◌≤◌, List, Option, Some, None}
use Rattle.outage_rules.specs.Network.{Network}
use Rattle.outage_rules.specs.Certificate.{other_end}
use Rattle.grid_model.specs.declared.parts.NodeId.{NodeId}
use Rattle.grid_model.specs.declared.parts.DeviceId.{DeviceId}
use Rattle.radial_forest.specs.Traversed.{parent_in, node_at}
use Rattle.radial_forest.specs.Lower.{IsAmong, IsChild}

-- the first nodes of a list differ, each stands behind the node that it hangs from, and no root behind a node that hangs
pub record IsDownward (net : Network) (parents : List (Option DeviceId)) (list : List NodeId) (count : ℕ) : Type 0 where
  pub within : (k : ℕ) → k < count → node_at list k < net.nodes
  pub once : (j k : ℕ) → j < k → k < count → node_at list j ≢ node_at list k
  pub behind : (k : ℕ) (e : DeviceId) → k < count → parent_in parents (node_at list k) ≡ Some e → (j : ℕ) × (j < k) × (node_at list j ≡ other_end net e.0 (node_at list k))
  pub tops_first : (j k : ℕ) → j < k → k < count → parent_in parents (node_at list k) ≡ None → parent_in parents (node_at list j) ≡ None

-- and all nodes are among them
pub record IsOrder (net : Network) (parents : List (Option DeviceId)) (list : List NodeId) (count : ℕ) : Type 0 where
  pub downward : IsDownward net parents list count
  pub open downward use *
  pub all : (n : ℕ) → n < net.nodes → IsAmong n list count

-- the roots below number i are among them, and nothing else
pub record AreTops (net : Network) (parents : List (Option DeviceId)) (list : List NodeId) (count i : ℕ) : Type 0 where
  pub within : (k : ℕ) → k < count → node_at list k < i
  pub rising : (j k : ℕ) → j < k → k < count → node_at list j < node_at list k
  pub tops : (k : ℕ) → k < count → parent_in parents (node_at list k) ≡ None
  pub all : (n : ℕ) → n < i → parent_in parents n ≡ None → IsAmong n list count
  pub few : count ≤ i

-- the roots are among them, and what hangs from those before a place, and nothing else
pub record IsListing (net : Network) (parents : List (Option DeviceId)) (list : List NodeId) (count place : ℕ) : Type 0 where
  pub downward : IsDownward net parents list count
  pub open downward use *
  pub ahead : place ≤ count
  pub tops : (n : ℕ) → n < net.nodes → parent_in parents n ≡ None → IsAmong n list count
  pub from : (k : ℕ) (e : DeviceId) → k < count → parent_in parents (node_at list k) ≡ Some e → (j : ℕ) × (j < place) × (node_at list j ≡ other_end net e.0 (node_at list k))
  pub done : (j : ℕ) → j < place → (e node : ℕ) → node < net.nodes → IsChild net parents (node_at list j) e node → IsAmong node list count
