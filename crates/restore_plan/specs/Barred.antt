-- The devices that stay open while a device is isolated.
use Rattle.std.specs.Prelude.{ℕ, Bool, ◌&&◌, ◌||◌, ◌==◌, not, List, slice_index_or, false}
use Rattle.std.specs.List.{list_any}
use Rattle.grid_model.specs.declared.parts.DeviceId.{DeviceId}
use Rattle.grid_model.specs.Parts.{Parts}
use Rattle.grid_model.specs.Places.{device_at, touches, is_source}

-- the device ends at a node, which is no source
abbrev pub ends_at : Parts → ℕ → ℕ → Bool
ends_at g n d = touches g d n && not (is_source g n)

-- the device is the fault, is among the cuts, or has an end in common with the fault that is no source
abbrev pub is_barred : Parts → List DeviceId → ℕ → ℕ → Bool
is_barred g cuts fault d =
    (((d == fault) || list_any (λ c. c.0 == d) cuts) || ends_at g (device_at g fault).from.0 d) || ends_at g (device_at g fault).to.0 d

-- a test by a list of flags
abbrev pub flagged : List Bool → ℕ → Bool
flagged flags d = slice_index_or flags d false
