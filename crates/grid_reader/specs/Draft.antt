-- What a draft of a network holds.
use Rattle.std.specs.Prelude.{◌≡◌, ℕ, false, List, map, slice_index_or}
use Rattle.grid_model.specs.declared.parts.Setting.{Setting}
use Rattle.grid_model.specs.Places.{setting_place}
use Rattle.grid_reader.specs.declared.row.Row.{Row}
use Rattle.grid_reader.specs.declared.draft.Draft.{Draft}
use Rattle.grid_reader.specs.Network as said
use Rattle.grid_reader.specs.Opened.{opened, states_of}

-- the draft holds what these rows say, and the lines of the devices
pub record IsDraftOf (rows : List Row) (lines : List ℕ) (draft : Draft) : Type 0 where
  pub nodes : draft.nodes ≡ said.nodes_of rows
  pub source_names : draft.source_names ≡ said.source_names rows
  pub sources : draft.sources.items ≡ said.sources_of rows
  pub device_names : draft.device_names ≡ said.device_names rows
  pub devices : draft.devices.items ≡ map opened (said.devices_of rows)
  pub closed : draft.closed.items ≡ states_of (said.devices_of rows)
  pub device_lines : draft.device_lines.items ≡ lines
  pub meter_names : draft.meter_names ≡ said.meter_names rows
  pub meters : draft.meters.items ≡ said.meters_of rows
  pub settings : draft.settings ≡ said.settings_of rows
  pub is_set : (s : Setting) → slice_index_or draft.is_set (setting_place s) false ≡ said.has_setting rows s
