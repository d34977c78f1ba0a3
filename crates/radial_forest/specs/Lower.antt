-- The lower side of a closed device: the nodes that opening it cuts off from their root.
use Rattle.std.specs.Prelude.{◌≡◌, ◌≢◌, ℕ, ◌<◌, ◌≤◌, List, Option, Some}
use Rattle.outage_rules.specs.Network.{Network, Walk, only}
use Rattle.outage_rules.specs.Certificate.{other_end}
use Rattle.grid_model.specs.declared.parts.NodeId.{NodeId}
use Rattle.grid_model.specs.declared.parts.DeviceId.{DeviceId}
use Rattle.radial_forest.specs.Traversed.{parent_in, node_at}
use Rattle.radial_forest.specs.Forested.{Forested, root_in}

-- the node stands among the first nodes of a list
abbrev pub IsAmong : ℕ → List NodeId → ℕ → Type 0
IsAmong n list count = (k : ℕ) × (k < count) × (node_at list k ≡ n)

-- no walk without the device joins the node to its root
abbrev pub IsCutOff : Network → List NodeId → ℕ → ℕ → Type 0
IsCutOff net roots d n = (k : ℕ) → Walk net (only d) k n (root_in roots n) → ⊥

-- the node hangs by device e from the node n
pub record IsChild (net : Network) (parents : List (Option DeviceId)) (n e node : ℕ) : Type 0 where
  pub parent : parent_in parents node ≡ Some (record { 0 = e })
  pub upper : other_end net e node ≡ n

-- the first nodes of a list are cut off by the device, and differ; the first of all hangs by the device
pub record IsLowerList (net : Network) (f : Forested) (d : ℕ) (list : List NodeId) (count : ℕ) : Type 0 where
  pub within : (k : ℕ) → k < count → node_at list k < net.nodes
  pub cut_off : (k : ℕ) → k < count → IsCutOff net f.roots d (node_at list k)
  pub once : (j k : ℕ) → j < k → k < count → node_at list j ≢ node_at list k
  pub some : 0 < count
  pub first : parent_in f.parents (node_at list 0) ≡ Some (record { 0 = d })

-- and what hangs from those before a place follows, and nothing else
pub record IsListing (net : Network) (f : Forested) (d : ℕ) (list : List NodeId) (count place : ℕ) : Type 0 where
  pub lower : IsLowerList net f d list count
  pub ahead : place ≤ count
  pub behind : (k : ℕ) → 0 < k → k < count → (e j : ℕ) × (j < place) × IsChild net f.parents (node_at list j) e (node_at list k)
  pub done : (j : ℕ) → j < place → (e node : ℕ) → node < net.nodes → IsChild net f.parents (node_at list j) e node → IsAmong node list count
