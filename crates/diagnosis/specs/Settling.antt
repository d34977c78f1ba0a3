-- Flags that are settled along the walks from a few places up to their roots, and how many steps that takes.
use Rattle.std.specs.Prelude.{◌≡◌, ℕ, ◌<◌, Bool, false, List, length, Some, None, if◌then◌else◌}
use Rattle.outage_rules.specs.Sum.{total}
use Rattle.outage_rules.specs.Network.{Cut}
use Rattle.grid_model.specs.declared.parts.NodeId.{NodeId}
use Rattle.grid_model.specs.declared.parts.DeviceId.{DeviceId}
use Rattle.grid_model.specs.Parts.{Parts}
use Rattle.grid_model.specs.Places.{devices_at}
use Rattle.radial_forest.specs.Traversed.{parent_in}
use Rattle.radial_forest.specs.Spreading.{switched}
use Rattle.subtree_costs.specs.Costed.{Costed}
use Rattle.subtree_costs.specs.Walks.{IsOnWalks, ChangeOnWalks}
use Rattle.diagnosis.specs.Judgement.{Judgement, IsJudged, AgreeAtDevice, AgreeAtRoot, flag_in, opened_by, is_dark_by}
use Rattle.diagnosis.specs.Watched.{differ_at}

-- each closed device, by its lower end, and each root at which the flags don't agree with the rows lies on the walk of a place
pub record DisagreeOnWalks (g : Parts) (c : Costed) (cut : Cut) (dark : ℕ → Bool) (places : List NodeId) : Type 0 where
  pub devices : (d : DeviceId) (low : ℕ) → low < length g.nodes → parent_in c.forest.parents low ≡ Some d → (AgreeAtDevice g c cut dark d.0 low → ⊥) → IsOnWalks (switched g c.forest.closed) c.forest places low
  pub roots : (n : ℕ) → n < length g.nodes → parent_in c.forest.parents n ≡ None → (AgreeAtRoot g dark n → ⊥) → IsOnWalks (switched g c.forest.closed) c.forest places n

-- no open device is opened
abbrev pub NoneOpenOpened : Parts → Costed → Cut → Type 0
NoneOpenOpened g c cut = (d : ℕ) → d < length g.devices → flag_in c.forest.closed d ≡ false → cut d ≡ false

-- flags that were judged before such a change can be settled after it
abbrev pub ChangesCanBeSettled : Type 0
ChangesCanBeSettled = (g : Parts) (c c' : Costed) (j : Judgement) (places : List NodeId) → IsJudged g c j → ChangeOnWalks g c c' places
    → DisagreeOnWalks g c' (opened_by j) (is_dark_by j) places × NoneOpenOpened g c' (opened_by j)

-- one for each device at a node that flips
abbrev pub flips_work : Parts → List Bool → List Bool → ℕ
flips_work g before now = total (length g.nodes) (λ n. if differ_at before now n then length (devices_at g n) else 0)
