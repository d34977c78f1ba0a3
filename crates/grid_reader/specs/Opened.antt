-- A network whose devices all stand open.
use Rattle.std.specs.Prelude.{Bool, false, List, map}
use Rattle.grid_model.specs.Parts.{Parts}
use Rattle.grid_model.specs.declared.parts.Device.{Device}

-- the device, but open
abbrev pub opened : Device → Device
opened d = record d { starts_closed = false }

-- the parts with every device open
abbrev pub opened_parts : Parts → Parts
opened_parts g = record g { devices = map opened g.devices }

-- the states in which the devices start
abbrev pub states_of : List Device → List Bool
states_of devices = map (λ d. d.starts_closed) devices
