-- How flags are judged one node after the other, on the way to flags that agree everywhere.
use Rattle.std.specs.Prelude.{◌≡◌, ℕ, ◌+◌, ◌<◌, ◌≤◌, Bool, ◌||◌, ◌⊎◌, not, List, length, Some, None, slice_set, if◌then◌else◌}
use Rattle.outage_rules.specs.Network.{Cut}
use Rattle.outage_rules.specs.Certificate.{other_end}
use Rattle.grid_model.specs.declared.parts.NodeId.{NodeId}
use Rattle.grid_model.specs.declared.parts.DeviceId.{DeviceId}
use Rattle.grid_model.specs.Parts.{Parts}
use Rattle.grid_model.specs.Places.{is_source, device_at}
use Rattle.grid_model.specs.Network.{network_of}
use Rattle.grid_model.specs.Problem.{mark_at}
use Rattle.radial_forest.specs.Traversed.{parent_in, node_at}
use Rattle.subtree_costs.specs.Shares.{row_at}
use Rattle.subtree_costs.specs.Costed.{Costed}
use Rattle.diagnosis.specs.Judgement.{Agree, flag_in, opens}
use Rattle.diagnosis.specs.Watched.{Watched, differ_at, AreDifferences}

-- a node is judged, where the node above it is flagged, and so is the device from which it hangs; no other flag is written
pub record IsNext (g : Parts) (c : Costed) (n : ℕ) (o d o' d' : List Bool) : Type 0 where
  pub top : parent_in c.forest.parents n ≡ None → (o' ≡ o) × (d' ≡ slice_set d n (not (is_source g n)))
  pub opened : (x : DeviceId) → parent_in c.forest.parents n ≡ Some x
      → o' ≡ slice_set o x.0 (opens (mark_at c.marks x.0) (flag_in d (other_end (network_of g) x.0 n)) ((device_at g x.0).weight + (row_at c.rows n).dark) (row_at c.rows n).live)
  pub dark : (x : DeviceId) → parent_in c.forest.parents n ≡ Some x → d' ≡ slice_set d n (flag_in d (other_end (network_of g) x.0 n) || flag_in o' x.0)

-- the flags, and the first so many nodes of a list, which flipped
pub record Judging : Type 0 where
  pub opened : List Bool
  pub dark : List Bool
  pub turned : List NodeId
  pub count : ℕ

abbrev pub judging : Watched DeviceId → Watched NodeId → List NodeId → ℕ → Judging
judging o d turned count = record { opened = o.flags; dark = d.flags; turned = turned; count = count }

-- a node is judged, and listed where it flips
pub record IsJudgedOn (g : Parts) (c : Costed) (n : ℕ) (s s' : Judging) : Type 0 where
  pub next : IsNext g c n s.opened s.dark s'.opened s'.dark
  pub turned : s'.turned ≡ (if differ_at s.dark s'.dark n then slice_set s.turned s.count (record { 0 = n }) else s.turned)
  pub count : s'.count ≡ (if differ_at s.dark s'.dark n then s.count + 1 else s.count)

-- the flags at the start, and flags that agree everywhere
pub record Aim : Type 0 where
  pub opened : List Bool
  pub dark : List Bool
  pub cut : Cut
  pub goal : ℕ → Bool

-- each flag is as at the start or as it is to be, and the nodes that flipped are listed, each once
pub record IsUnderWay (g : Parts) (c : Costed) (w : Aim) (s : Judging) : Type 0 where
  pub agree : Agree g c w.cut w.goal
  pub start_each : length w.dark ≡ length g.nodes
  pub opened_each : length s.opened ≡ length g.devices
  pub dark_each : length s.dark ≡ length g.nodes
  pub opened : (x : ℕ) → (flag_in s.opened x ≡ flag_in w.opened x) ⊎ (flag_in s.opened x ≡ w.cut x)
  pub dark : (n : ℕ) → (flag_in s.dark n ≡ flag_in w.dark n) ⊎ (flag_in s.dark n ≡ w.goal n)
  pub turned : AreDifferences w.dark s.dark s.count (node_at s.turned)

-- the flags of a node and of the device from which it hangs are as they are to be
pub record IsRight (c : Costed) (w : Aim) (s : Judging) (n : ℕ) : Type 0 where
  pub dark : flag_in s.dark n ≡ w.goal n
  pub opened : (x : DeviceId) → parent_in c.forest.parents n ≡ Some x → flag_in s.opened x.0 ≡ w.cut x.0

-- what is right stays right, and what is listed stays listed
pub record Leads (g : Parts) (c : Costed) (w : Aim) (s s' : Judging) : Type 0 where
  pub on : IsUnderWay g c w s'
  pub opened : (x : ℕ) → flag_in s.opened x ≡ w.cut x → flag_in s'.opened x ≡ w.cut x
  pub dark : (n : ℕ) → flag_in s.dark n ≡ w.goal n → flag_in s'.dark n ≡ w.goal n
  pub longer : s.count ≤ s'.count
  pub places : (k : ℕ) → k < s.count → node_at s'.turned k ≡ node_at s.turned k
  pub room : length s'.turned ≡ length s.turned

-- something is under way
abbrev pub HasAim : Parts → Costed → Judging → Type 0
HasAim g c s = (w : Aim) × IsUnderWay g c w s

-- whatever was under way is led on
abbrev pub AlwaysLeads : Parts → Costed → Judging → Judging → Type 0
AlwaysLeads g c s s' = (w : Aim) → IsUnderWay g c w s → Leads g c w s s'

-- a list of nodes, each of which hangs from the next, and the last from none
pub record IsWalkUp (g : Parts) (c : Costed) (walk : List NodeId) : Type 0 where
  pub within : (k : ℕ) → k < length walk → node_at walk k < length g.nodes
  pub up : (k : ℕ) (x : DeviceId) → k + 1 < length walk → parent_in c.forest.parents (node_at walk k) ≡ Some x → other_end (network_of g) x.0 (node_at walk k) ≡ node_at walk (k + 1)
  pub top : (k : ℕ) → k + 1 ≡ length walk → parent_in c.forest.parents (node_at walk k) ≡ None
