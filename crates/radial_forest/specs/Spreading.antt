-- How a traversal grows: node after node is reached, until closed devices lead no further.
use Rattle.std.specs.Prelude.{◌≡◌, ◌≢◌, ℕ, ◌<◌, ◌≤◌, Bool, true, false, ◌&&◌, not, List, [], ◌∷◌, ◌++◌, length, replicate, slice_index_or, slice_set, Option, Some, None, is_some, nat_lt, if◌then◌else◌, ◌⊎◌}
use Rattle.outage_rules.specs.Sum.{total}
use Rattle.outage_rules.specs.Network.{Network}
use Rattle.outage_rules.specs.Certificate.{HasParent, IsWhole, upper}
use Rattle.outage_rules.specs.Loops.{AreSeparateRoots}
use Rattle.grid_model.specs.declared.parts.NodeId.{NodeId}
use Rattle.grid_model.specs.declared.parts.DeviceId.{DeviceId}
use Rattle.grid_model.specs.Parts.{Parts}
use Rattle.grid_model.specs.Network.{network_in}
use Rattle.radial_forest.specs.Traversed.{Traversed, parent_in, depth_in, node_at, table_of}

-- the network where the flagged devices are closed
abbrev pub switched : Parts → List Bool → Network
switched g closed = network_in g (λ d. slice_index_or closed d false)

-- nothing is reached yet, of so many nodes
abbrev pub unreached : ℕ → Traversed
unreached nodes = record { order = []; parents = replicate nodes None; depths = replicate nodes None }

-- one more node is reached, behind the others, with this parent device and depth
abbrev pub reaching : Traversed → NodeId → Option DeviceId → ℕ → Traversed
reaching t n parent depth = record {
  order = t.order ++ n ∷ [];
  parents = slice_set t.parents n.0 parent;
  depths = slice_set t.depths n.0 (Some depth);
}

-- the node was reached
abbrev pub is_reached : Traversed → ℕ → Bool
is_reached t n = is_some (depth_in t.depths n)

-- the node hangs from a device
abbrev pub hangs : Traversed → ℕ → Bool
hangs t n = is_some (parent_in t.parents n)

-- the node was reached from no other
abbrev pub is_root : Traversed → ℕ → Bool
is_root t n = is_reached t n && not (hangs t n)

-- the same with one more node hung from a device, if it wasn't reached before
abbrev pub hanging : Traversed → NodeId → DeviceId → ℕ → Traversed
hanging t n d depth = if is_reached t n.0 then t else reaching t n (Some d) depth

-- what is reached so far: each node stands once in the order, and after the node that it hangs from
pub record IsPartial (g : Network) (t : Traversed) : Type 0 where
  pub parents_each : length t.parents ≡ g.nodes
  pub depths_each : length t.depths ≡ g.nodes
  pub counted : length t.order ≡ total g.nodes (λ n. if is_reached t n then 1 else 0)
  pub hung : (n : ℕ) → n < g.nodes → hangs t n ≡ true → (is_reached t n ≡ true) × HasParent g (table_of t) n
  pub top : (n : ℕ) → n < g.nodes → hangs t n ≡ false → (table_of t).depth n ≡ 0
  pub placed : (k : ℕ) → k < length t.order → (node_at t.order k < g.nodes) × (is_reached t (node_at t.order k) ≡ true)
  pub all : (n : ℕ) → n < g.nodes → is_reached t n ≡ true → (k : ℕ) × (k < length t.order) × (node_at t.order k ≡ n)
  pub once : (j k : ℕ) → j < k → k < length t.order → node_at t.order j ≢ node_at t.order k
  pub after_upper : (k : ℕ) → k < length t.order → hangs t (node_at t.order k) ≡ true →
      (j : ℕ) × (j < k) × (node_at t.order j ≡ upper g (table_of t) (node_at t.order k))
  pub shallow : (n : ℕ) → n < g.nodes → is_reached t n ≡ true → (table_of t).depth n < length t.order

-- what was reached stays so and keeps its place, and there are no new roots behind it
pub record Grows (t t' : Traversed) : Type 0 where
  pub reached : (n : ℕ) → is_reached t n ≡ true → is_reached t' n ≡ true
  pub long : length t.order ≤ length t'.order
  pub places : (k : ℕ) → k < length t.order → node_at t'.order k ≡ node_at t.order k
  pub roots : (n : ℕ) → is_root t' n ≡ is_root t n
  pub behind : (k : ℕ) → length t.order ≤ k → k < length t'.order → is_root t' (node_at t'.order k) ≡ false

-- no source stands behind a node that isn't one
abbrev pub AreSourcesFirst : Network → Traversed → Type 0
AreSourcesFirst g t = (j k : ℕ) → j < k → k < length t.order → g.is_source (node_at t.order k) ≡ true → g.is_source (node_at t.order j) ≡ true

-- both ends of the device are reached
pub record AreBothReached (g : Network) (t : Traversed) (d : ℕ) : Type 0 where
  pub from : is_reached t (g.from d) ≡ true
  pub to : is_reached t (g.to d) ≡ true

-- the closed devices at the node lead to nodes that are reached
abbrev pub IsDone : Network → Traversed → ℕ → Type 0
IsDone g t n = (d : ℕ) → d < g.devices → g.is_closed d ≡ true → (g.from d ≡ n) ⊎ (g.to d ≡ n) → AreBothReached g t d

-- so do those at the first k nodes of the order
abbrev pub AreDone : Network → Traversed → ℕ → Type 0
AreDone g t k = (j : ℕ) → j < k → IsDone g t (node_at t.order j)

-- closed devices lead no further, and no walk joins two roots that aren't both sources
pub record IsSettled (g : Network) (t : Traversed) : Type 0 where
  pub partial : IsPartial g t
  pub whole : IsWhole g (table_of t)
  pub separate : AreSeparateRoots g (is_root t)

-- the node hangs from the device
abbrev pub HangsFrom : Traversed → ℕ → ℕ → Type 0
HangsFrom t n d = parent_in t.parents n ≡ Some (record { 0 = d })

-- an end of the device hangs from it
abbrev pub IsParent : Network → Traversed → ℕ → Type 0
IsParent g t d = HangsFrom t (g.from d) d ⊎ HangsFrom t (g.to d) d

-- each of the closed devices below number i is the parent device of one of its ends
abbrev pub AreParents : Network → Traversed → ℕ → Type 0
AreParents g t i = (d : ℕ) → d < i → g.is_closed d ≡ true → IsParent g t d

-- the flags up to a number, and no others
abbrev pub first_flags : List Bool → ℕ → ℕ → Bool
first_flags closed k d = nat_lt d k && slice_index_or closed d false
