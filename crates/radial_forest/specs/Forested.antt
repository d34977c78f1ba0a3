-- The trees that closed devices make of a radial network: the parent device and the root of each node.
use Rattle.std.specs.Prelude.{◌≡◌, ◌↔◌, ◌⊎◌, ℕ, ◌<◌, Bool, true, false, List, length, slice_index_or, Option, Some, None}
use Rattle.outage_rules.specs.Network.{Network, IsSoundNetwork, Walk, IsRadial, only, nothing, is_live}
use Rattle.outage_rules.specs.Certificate.{other_end}
use Rattle.grid_model.specs.declared.parts.NodeId.{NodeId}
use Rattle.grid_model.specs.declared.parts.DeviceId.{DeviceId}
use Rattle.grid_model.specs.Parts.{Parts}
use Rattle.grid_model.specs.Network.{network_in}
use Rattle.radial_forest.specs.Traversed.{parent_in}

-- by number: whether each device is closed, and the parent device and the root of each node
pub record Forested : Type 0 where
  pub closed : List Bool
  pub parents : List (Option DeviceId)
  pub roots : List NodeId

-- the root of a node, by a list of them
abbrev pub root_in : List NodeId → ℕ → ℕ
root_in roots n = (slice_index_or roots n (record { 0 = 0 })).0

-- a closed device at the node, which leads to a node of the same root; a walk without it joins that one to the root, and none joins the node itself
pub record IsParentOf (net : Network) (roots : List NodeId) (n d : ℕ) : Type 0 where
  pub within : d < net.devices
  pub closed : net.is_closed d ≡ true
  pub ends : (net.from d ≡ n) ⊎ (net.to d ≡ n)
  pub same_root : root_in roots (other_end net d n) ≡ root_in roots n
  pub needed : (k : ℕ) → Walk net (only d) k n (root_in roots n) → ⊥
  pub upper : (k : ℕ) × Walk net (only d) k (other_end net d n) (root_in roots n)

-- each node is joined to its root, joined nodes have one root, and a tree that is fed has its source as root; each closed device is the parent device of one of its ends
pub record HasRoots (net : Network) (parents : List (Option DeviceId)) (roots : List NodeId) : Type 0 where
  pub within : (n : ℕ) → n < net.nodes → root_in roots n < net.nodes
  pub joined : (n : ℕ) → n < net.nodes → (k : ℕ) × Walk net nothing k n (root_in roots n)
  pub same_root : (m n : ℕ) → m < net.nodes → n < net.nodes → (root_in roots m ≡ root_in roots n) ↔ ((k : ℕ) × Walk net nothing k m n)
  pub fed : (n : ℕ) → n < net.nodes → net.is_source (root_in roots n) ≡ is_live net nothing n
  pub top : (n : ℕ) → n < net.nodes → (parent_in parents n ≡ None) ↔ (root_in roots n ≡ n)
  pub parent : (n : ℕ) (d : DeviceId) → n < net.nodes → parent_in parents n ≡ Some d → IsParentOf net roots n d.0
  pub closed : (d : ℕ) → d < net.devices → net.is_closed d ≡ true → (parent_in parents (net.from d) ≡ Some (record { 0 = d })) ⊎ (parent_in parents (net.to d) ≡ Some (record { 0 = d }))

-- the forest of a sound network where the flagged devices are closed, which close no loop
pub record IsForestOf (g : Parts) (closed : List Bool) (f : Forested) : Type 0 where
  pub states : f.closed ≡ closed
  pub states_each : length closed ≡ length g.devices
  pub parents_each : length f.parents ≡ length g.nodes
  pub roots_each : length f.roots ≡ length g.nodes
  pub sound : IsSoundNetwork (network_in g (λ d. slice_index_or closed d false))
  pub radial : IsRadial (network_in g (λ d. slice_index_or closed d false))
  pub rooted : HasRoots (network_in g (λ d. slice_index_or closed d false)) f.parents f.roots
