-- The trees of a forest as one table, which lists every node: the walks of the table begin at the roots.
use Rattle.std.specs.Prelude.{ℕ, zero, suc, Bool, true, ◌&&◌, not, nat_lt, List, length, Option, is_some, if◌then◌else◌}
use Rattle.outage_rules.specs.Network.{Network, Problem}
use Rattle.outage_rules.specs.Loops.{with_sources}
use Rattle.outage_rules.specs.Certificate.{Table, other_end}
use Rattle.grid_model.specs.declared.parts.DeviceId.{DeviceId}
use Rattle.radial_forest.specs.Traversed.{parent_in, number_of_device}
use Rattle.radial_forest.specs.Forested.{Forested}

-- the node hangs from a device
abbrev pub hangs : List (Option DeviceId) → ℕ → Bool
hangs parents n = is_some (parent_in parents n)

-- the node hangs from none: a root
abbrev pub is_top : Forested → ℕ → Bool
is_top f n = nat_lt n (length f.parents) && not (hangs f.parents n)

-- the network whose walks begin at the roots
abbrev pub from_roots : Network → Forested → Network
from_roots net f = with_sources net (is_top f)

-- the same reports and marks in it
abbrev pub rooted_problem : Problem → Forested → Problem
rooted_problem p f = record p { net = from_roots p.net f }

-- the device by which a node hangs
abbrev pub hanger : List (Option DeviceId) → ℕ → ℕ
hanger parents n = number_of_device (parent_in parents n)

-- how many devices lead from a node up to its root, where they are no more than k
abbrev pub devices_up : Network → List (Option DeviceId) → ℕ → ℕ → ℕ
devices_up net parents zero n = 0
devices_up net parents (suc k) n =
    if hangs parents n then suc (devices_up net parents k (other_end net (hanger parents n) n)) else 0

-- how many devices lead from a node up to its root
abbrev pub depth_in : Network → Forested → ℕ → ℕ
depth_in net f n = devices_up net f.parents (length f.parents) n

-- the table of the trees, with these costs
abbrev pub tree_table : Network → Forested → (ℕ → ℕ) → (ℕ → ℕ) → Table
tree_table net f live_cost dark_cost = record {
  is_listed = λ n. true;
  parent = hanger f.parents;
  depth = depth_in net f;
  live_cost = live_cost;
  dark_cost = dark_cost;
}
