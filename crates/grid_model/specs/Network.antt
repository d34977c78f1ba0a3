-- The switched network that the parts make, by the devices that are closed, and the problem that reports of darkness pose in its starting state.
use Rattle.std.specs.Prelude.{ℕ, Bool, false, length}
use Rattle.outage_rules.specs.Network.{Network, Problem}
use Rattle.grid_model.specs.Parts.{Parts}
use Rattle.grid_model.specs.Places.{device_at, is_source}

-- the network where these devices are closed
abbrev pub network_in : Parts → (ℕ → Bool) → Network
network_in g closed = record {
  nodes = length g.nodes;
  devices = length g.devices;
  from = λ d. (device_at g d).from.0;
  to = λ d. (device_at g d).to.0;
  is_source = is_source g;
  is_closed = closed;
}

-- and in its starting state
abbrev pub network_of : Parts → Network
network_of g = network_in g (λ d. (device_at g d).starts_closed)

-- no marks and no live reports, and dark reports of these weights at the nodes
abbrev pub problem_with : Parts → (ℕ → ℕ) → Problem
problem_with g dark = record {
  net = network_of g;
  weight = λ d. (device_at g d).weight;
  marked_open = λ d. false;
  marked_ok = λ d. false;
  dark_weight = dark;
  live_weight = λ n. 0;
}
