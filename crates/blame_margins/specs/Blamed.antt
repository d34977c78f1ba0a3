-- What an explanation loses without one of its devices.
use Rattle.std.specs.Prelude.{◌≡◌, ℕ, ◌+◌, ◌*◌, ◌<◌, true, false, List, sum_by, length, Option, None, Some}
use Rattle.grid_model.specs.Parts.{Parts}
use Rattle.grid_model.specs.declared.parts.DeviceId.{DeviceId}
use Rattle.grid_model.specs.declared.history.Event.{Event}
use Rattle.history_rules.specs.Posed.{problem_after, least_after}
use Rattle.radial_forest.specs.Traversed.{parent_in}
use Rattle.radial_forest.specs.Spreading.{switched}
use Rattle.subtree_costs.specs.Reach.{IsReach}
use Rattle.diagnosis.specs.Judgement.{opened_by}
use Rattle.field_state.specs.Without.{IsLeastWithout}
use Rattle.outage_engine.specs.Engined.{Engined}

-- the margin of a device after events: the least cost over the feasible sets without it, less the least cost; a device marked open has none
abbrev pub IsMargin : Parts → List Event → ℕ → Option ℕ → Type 0
IsMargin g h d None = (problem_after g h).marked_open d ≡ true
IsMargin g h d (Some m) = ((problem_after g h).marked_open d ≡ false) × IsLeastWithout (problem_after g h) d (least_after g h + m)

-- each blamed device hangs its lower end from the other one, and each node has this reach
pub record AreLowerEnds (e : Engined) (lower reach : ℕ → ℕ) : Type 0 where
  pub node : (d : DeviceId) → opened_by e.judged d.0 ≡ true → lower d.0 < length e.grid.nodes
  pub hangs : (d : DeviceId) → opened_by e.judged d.0 ≡ true → parent_in e.field.forest.parents (lower d.0) ≡ Some d
  pub reaches : (n : ℕ) → n < length e.grid.nodes → IsReach (switched e.grid e.field.forest.closed) n (reach n)

-- eight steps for each unit of length of the walks up from these devices
abbrev pub margins_work : (ℕ → ℕ) → (ℕ → ℕ) → List ℕ → ℕ
margins_work lower reach ds = sum_by (λ d. 8 * (reach (lower d) + 1)) ds
