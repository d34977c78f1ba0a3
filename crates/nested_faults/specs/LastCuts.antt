-- The last opened device on the walk down to each node.
use Rattle.std.specs.Prelude.{◌≡◌, ◌<◌, ℕ, zero, suc, if◌then◌else◌, List, length, slice_index_or, Option, Some, None, option_map}
use Rattle.outage_rules.specs.Network.{Network, Cut, nothing, is_live}
use Rattle.outage_rules.specs.Certificate.{Table, has_parent, upper, other_end}
use Rattle.grid_model.specs.Parts.{Parts}
use Rattle.grid_model.specs.Places.{device_id}
use Rattle.grid_model.specs.Network.{network_of}
use Rattle.grid_model.specs.declared.parts.DeviceId.{DeviceId}
use Rattle.radial_forest.specs.Traversed.{parent_in}
use Rattle.radial_forest.specs.Spreading.{switched}
use Rattle.subtree_costs.specs.Costed.{Costed}
use Rattle.subtree_costs.specs.Laws.{fed_rows}
use Rattle.diagnosis.specs.Judgement.{Judgement, opened_by}

-- the last device of the cut among the last k of the node's chain of parents
abbrev pub last_above : Network → Table → Cut → ℕ → ℕ → Option ℕ
last_above g t cut zero n = None
last_above g t cut (suc k) n =
    if has_parent g t n then (if cut (t.parent n) then Some (t.parent n) else last_above g t cut k (upper g t n)) else None

-- the last opened device on the walk to a fed node
abbrev pub last_opened : Parts → Costed → Judgement → ℕ → Option ℕ
last_opened g c j n = last_above (network_of g) (fed_rows g c) (opened_by j) ((fed_rows g c).depth n) n

-- what is noted of a node
abbrev pub noted_at : List (Option DeviceId) → ℕ → Option DeviceId
noted_at last n = slice_index_or last n None

-- the device from which a fed node hangs
abbrev pub fed_parent : Parts → Costed → ℕ → Option DeviceId
fed_parent g c n = if is_live (switched g c.forest.closed) nothing n then parent_in c.forest.parents n else None

-- the device that a node hangs from, where that is opened, and else what is noted of the node above
abbrev pub noted_below : Parts → Judgement → List (Option DeviceId) → ℕ → Option DeviceId → Option DeviceId
noted_below g j last n None = None
noted_below g j last n (Some d) = if opened_by j d.0 then Some d else noted_at last (other_end (network_of g) d.0 n)

-- the last opened device is noted of each node
pub record AreLastCuts (g : Parts) (c : Costed) (j : Judgement) (last : List (Option DeviceId)) : Type 0 where
  pub each : length last ≡ length g.nodes
  pub noted : (n : ℕ) → n < length g.nodes → noted_at last n ≡ option_map device_id (last_opened g c j n)
