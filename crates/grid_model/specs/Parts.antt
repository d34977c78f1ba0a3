-- A network as lists.
use Rattle.std.specs.Prelude.{ℕ, List}
use Rattle.grid_model.specs.declared.parts.NodeId.{NodeId}
use Rattle.grid_model.specs.declared.parts.Device.{Device}
use Rattle.grid_model.specs.declared.parts.Meter.{Meter}

-- the names of the nodes, the sources, the devices and the meters, each by number, and the settings in their order
pub record Parts : Type 0 where
  pub nodes : List (List ℕ)
  pub sources : List NodeId
  pub devices : List Device
  pub meters : List Meter
  pub settings : List ℕ
