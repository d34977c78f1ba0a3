-- The walks from a few places up to their roots, and changes that reach no row off them.
use Rattle.std.specs.Prelude.{◌≡◌, ◌≢◌, ℕ, zero, suc, ◌+◌, ◌<◌, ◌≤◌, List, length, slice_index, Option, Some}
use Rattle.outage_rules.specs.Sum.{total}
use Rattle.outage_rules.specs.Network.{Network}
use Rattle.outage_rules.specs.Certificate.{other_end}
use Rattle.grid_model.specs.declared.parts.NodeId.{NodeId}
use Rattle.grid_model.specs.declared.parts.DeviceId.{DeviceId}
use Rattle.grid_model.specs.Parts.{Parts}
use Rattle.grid_model.specs.Problem.{mark_at}
use Rattle.radial_forest.specs.Traversed.{parent_in, node_at}
use Rattle.radial_forest.specs.Forested.{Forested}
use Rattle.radial_forest.specs.Spreading.{switched}
use Rattle.subtree_costs.specs.Shares.{row_at}
use Rattle.subtree_costs.specs.Trees.{hanger, depth_in}
use Rattle.subtree_costs.specs.Costed.{Costed, IsCosted}

-- the node to which so many devices lead up from a node
abbrev pub node_up : Network → List (Option DeviceId) → ℕ → ℕ → ℕ
node_up net parents zero n = n
node_up net parents (suc k) n = other_end net (hanger parents (node_up net parents k n)) (node_up net parents k n)

-- a node, and the device from which it hangs, lie on the walk from another node to its root
abbrev pub IsOnWalk : Network → Forested → ℕ → ℕ → Type 0
IsOnWalk net f p n = (k : ℕ) × (k ≤ depth_in net f p) × (node_up net f.parents k p ≡ n)

-- or on the walk from one of the places
abbrev pub IsOnWalks : Network → Forested → List NodeId → ℕ → Type 0
IsOnWalks net f places n = (i : ℕ) × (i < length places) × IsOnWalk net f (node_at places i) n

-- one for each device on the walks, and one for each place
abbrev pub walks_work : Network → Forested → List NodeId → ℕ
walks_work net f places = total (length places) (λ i. depth_in net f (node_at places i) + 1)

-- the node is one of the places
abbrev pub IsPlace : List NodeId → ℕ → Type 0
IsPlace places n = (i : ℕ) × (i < length places) × (node_at places i ≡ n)

-- over the same trees, each node whose reports weigh something else, and the lower end of each closed device whose mark differs, is a place
pub record ChangeAtPlaces (g : Parts) (c c' : Costed) (places : List NodeId) : Type 0 where
  pub forest : c'.forest ≡ c.forest
  pub dark : (n : ℕ) → n < length g.nodes → slice_index c'.dark n ≢ slice_index c.dark n → IsPlace places n
  pub live : (n : ℕ) → n < length g.nodes → slice_index c'.live n ≢ slice_index c.live n → IsPlace places n
  pub marks : (d : DeviceId) (low : ℕ) → low < length g.nodes → parent_in c.forest.parents low ≡ Some d → mark_at c'.marks d.0 ≢ mark_at c.marks d.0 → IsPlace places low

-- over the same trees, each row that changed, and the lower end of each closed device whose mark changed, lies on the walk of a place
pub record ChangeOnWalks (g : Parts) (c c' : Costed) (places : List NodeId) : Type 0 where
  pub forest : c'.forest ≡ c.forest
  pub rows : (n : ℕ) → n < length g.nodes → row_at c'.rows n ≢ row_at c.rows n → IsOnWalks (switched g c.forest.closed) c.forest places n
  pub marks : (d : DeviceId) (low : ℕ) → low < length g.nodes → parent_in c.forest.parents low ≡ Some d → mark_at c'.marks d.0 ≢ mark_at c.marks d.0 → IsOnWalks (switched g c.forest.closed) c.forest places low

-- what changes at places alone changes no row off their walks
abbrev pub ChangesStayOnWalks : Type 0
ChangesStayOnWalks = (g : Parts) (c c' : Costed) (places : List NodeId) → IsCosted g c → IsCosted g c' → ChangeAtPlaces g c c' places → ChangeOnWalks g c c' places
