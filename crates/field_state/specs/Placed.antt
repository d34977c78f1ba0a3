-- The nodes where a field changed, and how the field differs there.
use Rattle.std.specs.Prelude.{◌≡◌, ℕ, ◌<◌, ◌⊎◌, List, length, slice_index, Some}
use Rattle.grid_model.specs.declared.parts.NodeId.{NodeId}
use Rattle.grid_model.specs.declared.parts.DeviceId.{DeviceId}
use Rattle.grid_model.specs.Parts.{Parts}
use Rattle.grid_model.specs.Problem.{mark_at}
use Rattle.radial_forest.specs.Traversed.{parent_in}
use Rattle.subtree_costs.specs.Costed.{Costed}
use Rattle.subtree_costs.specs.Walks.{IsPlace}

-- nodes, and the number below which they all are
pub record Placed : Type 0 where
  pub room : ℕ
  pub nodes : List NodeId

-- over the same trees the weights of each node are as before or the node is a place, and so are the mark of each closed device or its lower end; and places stay
pub record NotesChanges (g : Parts) (c c' : Costed) (places places' : List NodeId) : Type 0 where
  pub forest : c'.forest ≡ c.forest
  pub dark : (n : ℕ) → (slice_index c'.dark n ≡ slice_index c.dark n) ⊎ IsPlace places' n
  pub live : (n : ℕ) → (slice_index c'.live n ≡ slice_index c.live n) ⊎ IsPlace places' n
  pub marks : (d : DeviceId) (low : ℕ) → low < length g.nodes → parent_in c.forest.parents low ≡ Some d → (mark_at c'.marks d.0 ≡ mark_at c.marks d.0) ⊎ IsPlace places' low
  pub stay : (n : ℕ) → IsPlace places n → IsPlace places' n
