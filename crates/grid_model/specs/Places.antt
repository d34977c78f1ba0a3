-- The parts of a network by their numbers, and its settings.
use Rattle.std.specs.Prelude.{ℕ, Bool, false, ◌==◌, ◌||◌, List, [], length, filter, slice_index, slice_index_or, sum_by}
use Rattle.std.specs.List.{list_any, range_with_len}
use Rattle.grid_model.specs.Parts.{Parts}
use Rattle.grid_model.specs.declared.parts.Device.{Device}
use Rattle.grid_model.specs.declared.parts.Meter.{Meter}
use Rattle.grid_model.specs.declared.parts.DeviceId.{DeviceId}
use Rattle.grid_model.specs.declared.parts.MeterId.{MeterId}
use Rattle.grid_model.specs.declared.parts.Kind.TheVariants.{Tie}
use Rattle.grid_model.specs.declared.parts.Setting.{Setting}
use Rattle.grid_model.specs.declared.parts.Setting.TheVariants.{Call, Gasp, PingDown, PingUp, Powerup, LiveHold, Grace, OkHold}

abbrev pub no_device : Device
no_device = record { name = []; kind = Tie; from = record { 0 = 0 }; to = record { 0 = 0 }; weight = 0; starts_closed = false }

abbrev pub device_at : Parts → ℕ → Device
device_at g d = slice_index_or g.devices d no_device

abbrev pub no_meter : Meter
no_meter = record { name = []; node = record { 0 = 0 }; customers = 0 }

abbrev pub meter_at : Parts → ℕ → Meter
meter_at g m = slice_index_or g.meters m no_meter

-- the node of a meter
abbrev pub node_of : Parts → ℕ → ℕ
node_of g m = (meter_at g m).node.0

abbrev pub is_source : Parts → ℕ → Bool
is_source g n = list_any (λ s. s.0 == n) g.sources

abbrev pub device_id : ℕ → DeviceId
device_id d = record { 0 = d }

abbrev pub meter_id : ℕ → MeterId
meter_id m = record { 0 = m }

-- whether a device ends at a node
abbrev pub touches : Parts → ℕ → ℕ → Bool
touches g d n = ((device_at g d).from.0 == n) || ((device_at g d).to.0 == n)

-- the devices that end at a node, in rising order
abbrev pub devices_at : Parts → ℕ → List ℕ
devices_at g n = filter (λ d. touches g d n) (range_with_len 0 (length g.devices))

-- the meters that stand at a node, in rising order
abbrev pub meters_at : Parts → ℕ → List ℕ
meters_at g n = filter (λ m. node_of g m == n) (range_with_len 0 (length g.meters))

-- the place of a setting among the eight
abbrev pub setting_place : Setting → ℕ
setting_place Call = 0
setting_place Gasp = 1
setting_place PingDown = 2
setting_place PingUp = 3
setting_place Powerup = 4
setting_place LiveHold = 5
setting_place Grace = 6
setting_place OkHold = 7

abbrev pub setting_of : Parts → Setting → ℕ
setting_of g s = slice_index g.settings (setting_place s)

-- all customers of the network
abbrev pub customers_served : Parts → ℕ
customers_served g = sum_by (λ m. m.customers) g.meters
