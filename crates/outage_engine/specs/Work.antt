-- How many steps an event takes, by the events alone.
use Rattle.std.specs.Prelude.{ℕ, ◌+◌, ◌<◌, Bool, not, List, ◌∷◌, length, if◌then◌else◌}
use Rattle.outage_rules.specs.Sum.{total}
use Rattle.outage_rules.specs.Network.{is_live}
use Rattle.grid_model.specs.Parts.{Parts}
use Rattle.grid_model.specs.Places.{devices_at}
use Rattle.grid_model.specs.declared.history.Event.{Event}
use Rattle.history_rules.specs.State.{network_after}
use Rattle.history_rules.specs.Posed.{diagnosis_after}
use Rattle.subtree_costs.specs.Reach.{IsReach}
use Rattle.diagnosis.specs.Judgement.{differ}
use Rattle.field_state.specs.Repairs.{repairs_work}

-- the reach of each node in the network after events
abbrev pub AreReachesAfter : Parts → List Event → (ℕ → ℕ) → Type 0
AreReachesAfter g h reach = (n : ℕ) → n < length g.nodes → IsReach (network_after g h) n (reach n)

-- the diagnosis of the events leaves the node dark
abbrev pub is_node_dark : Parts → List Event → ℕ → Bool
is_node_dark g h n = not (is_live (network_after g h) (diagnosis_after g h) n)

-- the node is dark after one of two lists of events and live after the other
abbrev pub flips_between : Parts → List Event → List Event → ℕ → Bool
flips_between g h h' n = differ (is_node_dark g h n) (is_node_dark g h' n)

-- how many devices the nodes that flip have, each node counted by itself
abbrev pub flips_work_after : Parts → List Event → List Event → ℕ
flips_work_after g h h' = total (length g.nodes) (λ n. if flips_between g h h' n then length (devices_at g n) else 0)

-- the steps of an event after others: those of its repairs, and one for each device at a node that it flips
abbrev pub event_work : Parts → List Event → Event → (ℕ → ℕ) → ℕ
event_work g h e reach = repairs_work g h e reach + flips_work_after g h (e ∷ h)
