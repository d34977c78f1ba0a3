-- Parts that are sound but for the loops that their closed devices may close.
use Rattle.std.proofs.Common.{◌≡◌, ◌≢◌, ◌==◌, ℕ, ◌<◌, ◌≤◌, Bool, true, false, sym, ap, ◌∙◌, subst, arith, List, length, get_or, map}
use Rattle.std.specs.Prelude.{All, AllPairs, None}
use Rattle.std.proofs.lemmas.Bool.{eqb-true}
use Rattle.std.proofs.lemmas.List.{length-map}
use Rattle.std.proofs.lemmas.List.Elements.{All-map}
use Rattle.std.proofs.lemmas.List.Folds.{Any-from_list_any}
use Rattle.outage_rules.specs.Network.{IsSoundNetwork, IsRadial}
use Rattle.outage_rules.specs.Loops.{first_loop}
use Rattle.outage_rules.proofs.Loops.{no_first_loop}
use Rattle.grid_model.specs.Parts.{Parts}
use Rattle.grid_model.specs.Name.{is_name}
use Rattle.grid_model.specs.Names.{AreDistinct}
use Rattle.grid_model.specs.Places.{device_at, meter_at, is_source}
use Rattle.grid_model.specs.Network.{network_in, network_of}
use Rattle.grid_model.specs.Sound.{IsSoundDevice, IsSoundMeter, AreSoundSettings, HasNames, IsSoundParts}
use Rattle.grid_model.specs.declared.parts.Device.{Device}
use Rattle.grid_model.specs.Started.{started}
use Rattle.grid_reader.specs.Opened.{opened, opened_parts, states_of}
use Rattle.grid_reader.proofs.Opened.{started_opened, opened_names, opened_at, opened_network, opened_radial}

-- no name stands twice in its sort, and numbers are within their ranges
pub record IsAlmostSound (g : Parts) : Type 0 where
  pub names : HasNames g
  pub node_names : AreDistinct g.nodes
  pub device_names : AreDistinct (map (λ d. d.name) g.devices)
  pub meter_names : AreDistinct (map (λ m. m.name) g.meters)
  pub sources_apart : AllPairs (λ a b. a.0 ≢ b.0) g.sources
  pub sources : All (λ s. s.0 < length g.nodes) g.sources
  pub devices : (d : ℕ) → d < length g.devices → IsSoundDevice g (device_at g d)
  pub meters : (m : ℕ) → m < length g.meters → IsSoundMeter g (meter_at g m)
  pub settings : AreSoundSettings g.settings
  pub few_nodes : length g.nodes ≤ 200000
  pub few_devices : length g.devices ≤ 400000
  pub few_meters : length g.meters ≤ 500000

-- where no loop is closed the parts are sound
pub sound_when_radial : (g : Parts) → IsAlmostSound g → IsRadial (network_of g) → IsSoundParts g
sound_when_radial g s radial = record {
  names = s.names;
  node_names = s.node_names;
  device_names = s.device_names;
  meter_names = s.meter_names;
  sources_apart = s.sources_apart;
  sources = s.sources;
  devices = s.devices;
  meters = s.meters;
  settings = s.settings;
  few_nodes = s.few_nodes;
  few_devices = s.few_devices;
  few_meters = s.few_meters;
  radial = radial;
}

-- a source is a node
source_within : (g : Parts) → IsAlmostSound g → (n : ℕ) → is_source g n ≡ true → n < length g.nodes
source_within g s n e =
    let some = Any-from_list_any (λ s. s.0 == n) g.sources e in
    let l = s.sources some.0 some.1 some.2 in
    let at = ap (λ s. s.0) some.3 in
    let same = eqb-true some.1.0 n some.4 in
    omega arith

-- the network is sound, whatever devices are closed
pub sound_network_in : (g : Parts) (closed : ℕ → Bool) → IsAlmostSound g → IsSoundNetwork (network_in g closed)
sound_network_in g closed s = record {
  from = λ d l. (s.devices d l).from;
  to = λ d l. (s.devices d l).to;
  apart = λ d l. (s.devices d l).apart;
  sources = source_within g s;
}

-- a sound device is sound when it is opened
device_opened : (g : Parts) (d : Device) → IsSoundDevice g d → IsSoundDevice (opened_parts g) (opened d)
device_opened g d s = record { from = s.from; to = s.to; apart = s.apart; weight = s.weight; most_weight = s.most_weight }

-- with every device open the parts are sound
pub opened_is_sound : (g : Parts) → IsAlmostSound g → IsSoundParts (opened_parts g)
opened_is_sound g s =
    let count = length-map g.devices opened in
    record {
      names = record { nodes = s.names.nodes; devices = All-map (λ (d : Device). is_name d.name ≡ true) opened g.devices s.names.devices; meters = s.names.meters };
      node_names = s.node_names;
      device_names = subst AreDistinct (sym (opened_names g.devices)) s.device_names;
      meter_names = s.meter_names;
      sources_apart = s.sources_apart;
      sources = s.sources;
      devices = λ d l. subst (IsSoundDevice (opened_parts g)) (sym (opened_at g d)) (device_opened g (device_at g d) (s.devices d (omega arith)));
      meters = λ m l. let a = s.meters m l in record { node = a.node; customers = a.customers; most_customers = a.most_customers };
      settings = s.settings;
      few_nodes = s.few_nodes;
      few_devices = let few = s.few_devices in omega arith;
      few_meters = s.few_meters;
      radial = opened_radial g;
    }

-- the opened parts with their devices started in the states that they had are the parts
pub restarted : (g : Parts) → record (opened_parts g) { devices = started (map opened g.devices) (states_of g.devices) } ≡ g
restarted g = ap (λ (devices : List Device). record g { devices = devices }) (started_opened g.devices)

-- parts where no device closes a loop are radial
pub radial_without_loop : (g : Parts) → IsAlmostSound g → first_loop (network_of g) ≡ None → IsRadial (network_of g)
radial_without_loop g s e = (no_first_loop (network_of g) (sound_network_in g (λ d. (device_at g d).starts_closed) s)).0 e

-- and so are the opened parts in those states
pub opened_without_loop : (g : Parts) → IsAlmostSound g → first_loop (network_in (opened_parts g) (λ d. get_or (states_of g.devices) d false)) ≡ None → IsRadial (network_in (opened_parts g) (λ d. get_or (states_of g.devices) d false))
opened_without_loop g s e = subst IsRadial (sym (opened_network g)) (radial_without_loop g s (sym (ap first_loop (opened_network g)) ∙ e))
