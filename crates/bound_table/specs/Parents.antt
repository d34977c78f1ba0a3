-- The device that feeds a node, by its name.
use Rattle.std.specs.Prelude.{ℕ, List, Option, Some, None, Result, Ok}
use Rattle.grid_model.specs.Parts.{Parts}
use Rattle.grid_model.specs.declared.parts.DeviceId.{DeviceId}
use Rattle.bound_table.specs.declared.bounds.BoundRule.{BoundRule}
use Rattle.bound_table.specs.BoundLines.{device_of, parent_with}

-- none where there is no name
abbrev pub parent_named : Parts → Option (List ℕ) → Result (Option DeviceId) BoundRule
parent_named g None = Ok None
parent_named g (Some name) = parent_with (device_of g name)
