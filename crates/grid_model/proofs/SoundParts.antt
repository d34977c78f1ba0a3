-- What sound parts come to.
use Rattle.std.proofs.Common.{◌≡◌, ◌≢◌, ◌<◌, ◌≤◌, ◌*◌, ◌==◌, ◌^◌, ℕ, true, length, get_or, All, ap, arith}
use Rattle.std.proofs.lemmas.List.Sums.{sum_by-le}
use Rattle.std.proofs.lemmas.List.Elements.{All-from_get_or}
use Rattle.std.proofs.lemmas.Bool.{eqb-true, false≢true}
use Rattle.std.proofs.lemmas.List.Folds.{Any-from_list_any}
use Rattle.outage_rules.specs.Network.{IsSoundNetwork, IsSound}
use Rattle.grid_model.specs.Parts.{Parts}
use Rattle.grid_model.specs.Sound.{IsSoundParts}
use Rattle.grid_model.specs.Places.{no_device, no_meter, is_source, customers_served}
use Rattle.grid_model.specs.Network.{network_of, problem_with}

-- all customers fit 64 bits
pub customers_within : (g : Parts) → IsSoundParts g → customers_served g < 2 ^ 64
customers_within g s =
    let few : length g.meters ≤ 500000 = s.few_meters in
    let sum : customers_served g ≤ length g.meters * 1000000 = sum_by-le (λ m. m.customers) 1000000 g.meters (All-from_get_or (λ m. m.customers ≤ 1000000) g.meters no_meter (λ m w. (s.meters m w).most_customers)) in
    omega arith

source_within : (g : Parts) (n : ℕ) → IsSoundParts g → is_source g n ≡ true → n < length g.nodes
source_within g n s e =
    let a = Any-from_list_any (λ s. s.0 == n) g.sources e in
    let same : (get_or g.sources a.0 a.1).0 ≡ a.1.0 = ap (λ s. s.0) a.3 in
    let here : a.1.0 ≡ n = eqb-true a.1.0 n a.4 in
    let within : (get_or g.sources a.0 a.1).0 < length g.nodes = s.sources a.0 a.1 a.2 in
    omega arith

-- sound parts make a sound network
pub sound_network : (g : Parts) → IsSoundParts g → IsSoundNetwork (network_of g)
sound_network g s = record {
  from = λ d w. (s.devices d w).from;
  to = λ d w. (s.devices d w).to;
  apart = λ d w. (s.devices d w).apart;
  sources = λ n. source_within g n s;
}

-- and pose a sound problem, whatever reports of darkness there are
pub sound_problem : (g : Parts) (dark : ℕ → ℕ) → IsSoundParts g → IsSound (problem_with g dark)
sound_problem g dark s = record {
  net = sound_network g s;
  weights = λ d w. (s.devices d w).weight;
  marks = λ d w e. absurd (false≢true e);
}

-- what sound devices have in common
pub devices_from : (g : Parts) → IsSoundParts g → All (λ d. d.from.0 < length g.nodes) g.devices
devices_from g s = All-from_get_or (λ d. d.from.0 < length g.nodes) g.devices no_device (λ d w. (s.devices d w).from)

pub devices_to : (g : Parts) → IsSoundParts g → All (λ d. d.to.0 < length g.nodes) g.devices
devices_to g s = All-from_get_or (λ d. d.to.0 < length g.nodes) g.devices no_device (λ d w. (s.devices d w).to)

pub devices_apart : (g : Parts) → IsSoundParts g → All (λ d. d.from.0 ≢ d.to.0) g.devices
devices_apart g s = All-from_get_or (λ d. d.from.0 ≢ d.to.0) g.devices no_device (λ d w. (s.devices d w).apart)

-- and meters
pub meters_node : (g : Parts) → IsSoundParts g → All (λ m. m.node.0 < length g.nodes) g.meters
meters_node g s = All-from_get_or (λ m. m.node.0 < length g.nodes) g.meters no_meter (λ m w. (s.meters m w).node)
