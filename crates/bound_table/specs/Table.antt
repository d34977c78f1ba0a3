-- The bounds of a diagnosis as a number and two lists.
use Rattle.std.specs.Prelude.{ℕ, List}
use Rattle.grid_model.specs.declared.parts.DeviceId.{DeviceId}
use Rattle.bound_table.specs.declared.bounds.BoundRow.{BoundRow}

-- the cost, the cuts and the rows
pub record Table : Type 0 where
  pub cost : ℕ
  pub cuts : List DeviceId
  pub rows : List BoundRow
