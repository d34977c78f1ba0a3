-- A network of open devices, once they start in their states.
use Rattle.std.proofs.Common.{◌≡◌, ℕ, ◌<◌, Bool, false, List, length, get_or, Option, Some, None, sym, ap, ◌∙◌}
use Rattle.std.specs.Prelude.{option_map, slice_index}
use Rattle.outage_rules.specs.Network.{Network, IsSoundNetwork}
use Rattle.outage_rules.specs.Loops.{first_loop, loops}
use Rattle.outage_rules.proofs.FirstBelow.{first_is}
use Rattle.grid_model.specs.declared.parts.DeviceId.{DeviceId}
use Rattle.grid_model.specs.Parts.{Parts}
use Rattle.grid_model.specs.Network.{network_in, network_of}
use Rattle.grid_model.specs.Started.{started}
use Rattle.grid_reader.specs.declared.fault.GridRule.TheVariants.{Loop}
use Rattle.grid_reader.specs.Text.{IsGrid, IsRefusedAt, unless_looped}
use Rattle.grid_reader.specs.Start.{started_in}

-- the network where these devices are closed
abbrev pub network_with : Parts → List Bool → Network
network_with g closed = network_in g (λ d. get_or closed d false)

-- the parts with their devices started
abbrev parts_with : Parts → List Bool → Parts
parts_with g closed = record g { devices = started g.devices closed }

-- the device that was found closes the first loop
pub loop_found : (g grid : Parts) (closed : List Bool) (found : Option DeviceId) (d : DeviceId) → grid ≡ g
    → option_map (λ d. d.0) found ≡ first_loop (network_with grid closed) → found ≡ Some d → first_loop (network_with g closed) ≡ Some d.0
loop_found g grid closed found d e looked is = ap (λ p. first_loop (network_with p closed)) (sym e) ∙ sym looked ∙ ap (option_map (λ (x : DeviceId). x.0)) is

-- and none was found where there is none
pub none_found : (grid : Parts) (closed : List Bool) (found : Option DeviceId) → option_map (λ d. d.0) found ≡ first_loop (network_with grid closed) → found ≡ None
    → first_loop (network_with grid closed) ≡ None
none_found grid closed found looked is = sym looked ∙ ap (option_map (λ (x : DeviceId). x.0)) is

-- such a device is one of the network
pub loop_within : (g : Parts) (closed : List Bool) (k : ℕ) → first_loop (network_with g closed) ≡ Some k → k < length g.devices
unfolding first_loop
loop_within g closed k e = (first_is (length g.devices) k (loops (network_with g closed)) e).0

-- it is refused at its line
pub loop_refused : (g : Parts) (closed : List Bool) (device_lines : List ℕ) (k : ℕ) → first_loop (network_with g closed) ≡ Some k
    → started_in g closed device_lines ≡ IsRefusedAt (slice_index device_lines k) Loop
loop_refused g closed device_lines k e = ap (unless_looped (parts_with g closed) device_lines) e

-- and without a loop there is the network
pub loopless : (g grid made : Parts) (closed : List Bool) (device_lines : List ℕ) → grid ≡ g → first_loop (network_with grid closed) ≡ None
    → made ≡ record grid { devices = started grid.devices closed } → started_in g closed device_lines ≡ IsGrid made
loopless g grid made closed device_lines e none made_is =
    ap (unless_looped (parts_with g closed) device_lines) (ap (λ p. first_loop (network_with p closed)) (sym e) ∙ none)
    ∙ ap (λ p. IsGrid (parts_with p closed)) (sym e)
    ∙ ap IsGrid (sym made_is)

-- a network is sound whatever devices are closed
pub sound_with : (g : Parts) (closed : List Bool) → IsSoundNetwork (network_of g) → IsSoundNetwork (network_with g closed)
sound_with g closed s = record { from = s.from; to = s.to; apart = s.apart; sources = s.sources }
