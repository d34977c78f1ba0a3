-- What a judgement needs to be settled after an event.
use Rattle.std.specs.Prelude.{ℕ, ◌+◌, ◌<◌, length, All}
use Rattle.grid_model.specs.Parts.{Parts}
use Rattle.radial_forest.specs.Spreading.{switched}
use Rattle.subtree_costs.specs.Walks.{walks_work}
use Rattle.diagnosis.specs.Judgement.{Judgement, opened_by, is_dark_by}
use Rattle.diagnosis.specs.Settling.{DisagreeOnWalks, NoneOpenOpened, flips_work}
use Rattle.field_state.specs.Fielded.{Fielded}

-- the flags disagree with the rows of a field on the walks from its places alone, and no open device is opened
pub record CanBeSettled (g : Parts) (f : Fielded) (j : Judgement) : Type 0 where
  pub within : All (λ n. n.0 < length g.nodes) f.places
  pub disagree : DisagreeOnWalks g f.costs (opened_by j) (is_dark_by j) f.places
  pub open_ones : NoneOpenOpened g f.costs (opened_by j)

-- one for each device on the walks from the places of a field and for each of the places, and one for each device at a node that flips
abbrev pub settle_work : Parts → Fielded → Judgement → Judgement → ℕ
settle_work g f before now = walks_work (switched g f.forest.closed) f.forest f.places + flips_work g before.dark now.dark
