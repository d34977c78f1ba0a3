-- What a network keeps beside its parts.
use Rattle.std.specs.Prelude.{◌≡◌, ℕ, ◌<◌, ◌==◌, ◌||◌, Bool, false, List, length, map, filter, slice_index_or}
use Rattle.std.specs.List.{range_with_len}
use Rattle.grid_model.specs.declared.parts.Device.{Device}
use Rattle.grid_model.specs.declared.parts.DeviceId.{DeviceId}
use Rattle.grid_model.specs.declared.parts.Meter.{Meter}
use Rattle.grid_model.specs.declared.parts.MeterId.{MeterId}
use Rattle.grid_model.specs.Parts.{Parts}
use Rattle.grid_model.specs.Places.{no_device, no_meter, is_source, customers_served, devices_at, meters_at}
use Rattle.grid_model.specs.Groups.{group_at}
use Rattle.grid_model.specs.Sound.{IsSoundParts}

-- the places of the devices of a list that end at a node
abbrev pub places_ending : List Device → ℕ → List ℕ
places_ending devices n =
    filter (λ d. ((slice_index_or devices d no_device).from.0 == n) || ((slice_index_or devices d no_device).to.0 == n)) (range_with_len 0 (length devices))

-- the places of the meters of a list that stand at a node
abbrev pub places_standing : List Meter → ℕ → List ℕ
places_standing meters n = filter (λ m. (slice_index_or meters m no_meter).node.0 == n) (range_with_len 0 (length meters))

-- the lists of devices and of meters at each node
pub record Lists : Type 0 where
  pub incident : List (List DeviceId)
  pub standing : List (List MeterId)

-- there is one list a node, of what is there
pub record AreListed (g : Parts) (lists : Lists) : Type 0 where
  pub incident_count : length lists.incident ≡ length g.nodes
  pub incident : (n : ℕ) → n < length g.nodes → map (λ d. d.0) (group_at lists.incident n) ≡ devices_at g n
  pub standing_count : length lists.standing ≡ length g.nodes
  pub standing : (n : ℕ) → n < length g.nodes → map (λ m. m.0) (group_at lists.standing n) ≡ meters_at g n

-- the parts are sound, and what is looked up in them agrees with them
pub record IsIndexed (g : Parts) (flags : List Bool) (device_names meter_names : List (List ℕ)) (there : Lists) (served : ℕ) : Type 0 where
  pub sound : IsSoundParts g
  pub flag_count : length flags ≡ length g.nodes
  pub source_flags : (n : ℕ) → slice_index_or flags n false ≡ is_source g n
  pub devices : device_names ≡ map (λ d. d.name) g.devices
  pub meters : meter_names ≡ map (λ m. m.name) g.meters
  pub lists : AreListed g there
  pub customers : served ≡ customers_served g
