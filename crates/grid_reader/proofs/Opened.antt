-- A network with every device open at first, and its devices started anew.
use Rattle.std.proofs.Common.{◌≡◌, ℕ, Bool, false, List, [], ◌∷◌, length, get_or, map, refl, sym, ap, ◌∙◌}
use Rattle.std.proofs.Math.Path.{fun_ext}
use Rattle.std.proofs.Math.ListN.{get_or-map}
use Rattle.std.proofs.lemmas.List.{length-map}
use Rattle.std.proofs.lemmas.Bool.{false≢true}
use Rattle.outage_rules.specs.Network.{Network, IsRadial}
use Rattle.grid_model.specs.declared.parts.Device.{Device}
use Rattle.grid_model.specs.Parts.{Parts}
use Rattle.grid_model.specs.Places.{no_device, device_at, is_source}
use Rattle.grid_model.specs.Network.{network_in, network_of}
use Rattle.grid_model.specs.Started.{started}
use Rattle.grid_reader.specs.Opened.{opened, opened_parts, states_of}

-- devices that are opened and started in their states are as they were
pub started_opened : (devices : List Device) → started (map opened devices) (states_of devices) ≡ devices
started_opened [] = refl
started_opened (d ∷ devices) = ap (λ ds. d ∷ ds) (started_opened devices)

pub opened_names : (devices : List Device) → map (λ d. d.name) (map opened devices) ≡ map (λ d. d.name) devices
opened_names [] = refl
opened_names (d ∷ devices) = ap (λ names. d.name ∷ names) (opened_names devices)

-- each device is as it was but for its state
pub opened_at : (g : Parts) (d : ℕ) → device_at (opened_parts g) d ≡ opened (device_at g d)
opened_at g d = get_or-map opened g.devices d no_device

state_at : (g : Parts) (d : ℕ) → get_or (states_of g.devices) d false ≡ (device_at g d).starts_closed
state_at g d = get_or-map (λ (x : Device). x.starts_closed) g.devices d no_device

-- a network by its parts
network_by : Parts → ℕ → (ℕ → ℕ) → (ℕ → ℕ) → (ℕ → Bool) → Network
network_by g devices from to closed = record { nodes = length g.nodes; devices = devices; from = from; to = to; is_source = is_source g; is_closed = closed }

-- the network is the same in each state
pub opened_network_in : (g : Parts) (closed : ℕ → Bool) → network_in (opened_parts g) closed ≡ network_in g closed
unfolding network_by
opened_network_in g closed =
    ap (λ n. network_by g n (λ d. (device_at (opened_parts g) d).from.0) (λ d. (device_at (opened_parts g) d).to.0) closed) (length-map g.devices opened)
    ∙ ap (λ f. network_by g (length g.devices) f (λ d. (device_at (opened_parts g) d).to.0) closed) (fun_ext (λ d. ap (λ x. x.from.0) (opened_at g d)))
    ∙ ap (λ f. network_by g (length g.devices) (λ d. (device_at g d).from.0) f closed) (fun_ext (λ d. ap (λ x. x.to.0) (opened_at g d)))

-- and in the states that the devices had it is the network as it starts
pub opened_network : (g : Parts) → network_in (opened_parts g) (λ d. get_or (states_of g.devices) d false) ≡ network_of g
opened_network g = opened_network_in g (λ d. get_or (states_of g.devices) d false) ∙ ap (λ closed. network_in g closed) (fun_ext (λ d. state_at g d))

-- with no closed device no loop is closed
pub opened_radial : (g : Parts) → IsRadial (network_of (opened_parts g))
opened_radial g d l closed = absurd (false≢true (sym (ap (λ (x : Device). x.starts_closed) (opened_at g d)) ∙ closed))
