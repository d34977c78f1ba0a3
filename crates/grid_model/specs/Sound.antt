-- Which parts make a network.
use Rattle.std.specs.Prelude.{◌≡◌, ◌≢◌, true, ℕ, ◌<◌, ◌≤◌, List, length, map, slice_index, All, AllPairs}
use Rattle.outage_rules.specs.Network.{IsRadial}
use Rattle.grid_model.specs.Parts.{Parts}
use Rattle.grid_model.specs.Name.{is_name}
use Rattle.grid_model.specs.Names.{AreDistinct}
use Rattle.grid_model.specs.Places.{device_at, meter_at}
use Rattle.grid_model.specs.Network.{network_of}
use Rattle.grid_model.specs.declared.parts.Device.{Device}
use Rattle.grid_model.specs.declared.parts.Meter.{Meter}

-- the ends are nodes and differ, and the weight is within its range
pub record IsSoundDevice (g : Parts) (d : Device) : Type 0 where
  pub from : d.from.0 < length g.nodes
  pub to : d.to.0 < length g.nodes
  pub apart : d.from.0 ≢ d.to.0
  pub weight : 1 ≤ d.weight
  pub most_weight : d.weight ≤ 1000000

-- the meter stands at a node, and has some customers
pub record IsSoundMeter (g : Parts) (m : Meter) : Type 0 where
  pub node : m.node.0 < length g.nodes
  pub customers : 1 ≤ m.customers
  pub most_customers : m.customers ≤ 1000000

-- five weights from 1 to 1,000,000 and three times of at most 10,000,000 seconds
pub record AreSoundSettings (settings : List ℕ) : Type 0 where
  pub eight : length settings ≡ 8
  pub weights : (k : ℕ) → k < 5 → 1 ≤ slice_index settings k
  pub most_weights : (k : ℕ) → k < 5 → slice_index settings k ≤ 1000000
  pub holds : (k : ℕ) → k < 8 → slice_index settings k ≤ 10000000

-- the nodes, the devices and the meters have names that a text may hold
pub record HasNames (g : Parts) : Type 0 where
  pub nodes : All (λ name. is_name name ≡ true) g.nodes
  pub devices : All (λ d. is_name d.name ≡ true) g.devices
  pub meters : All (λ m. is_name m.name ≡ true) g.meters

-- no name stands twice in its sort, numbers are within their ranges, and the devices that start closed close no loop
pub record IsSoundParts (g : Parts) : Type 0 where
  pub names : HasNames g
  pub node_names : AreDistinct g.nodes
  pub device_names : AreDistinct (map (λ d. d.name) g.devices)
  pub meter_names : AreDistinct (map (λ m. m.name) g.meters)
  pub sources_apart : AllPairs (λ a b. a.0 ≢ b.0) g.sources
  pub sources : All (λ s. s.0 < length g.nodes) g.sources
  pub devices : (d : ℕ) → d < length g.devices → IsSoundDevice g (device_at g d)
  pub meters : (m : ℕ) → m < length g.meters → IsSoundMeter g (meter_at g m)
  pub settings : AreSoundSettings g.settings
  pub few_nodes : length g.nodes ≤ 200000
  pub few_devices : length g.devices ≤ 400000
  pub few_meters : length g.meters ≤ 500000
  pub radial : IsRadial (network_of g)
