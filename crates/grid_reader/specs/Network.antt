-- The network that rows say, and the rules on a row after other rows.
use Rattle.std.specs.Prelude.{ℕ, ◌==◌, ◌||◌, Bool, false, List, [], ◌∷◌, ◌++◌, length, nat_lt, slice_set, Option, Some, None, if◌then◌else◌}
use Rattle.grid_model.specs.Parts.{Parts}
use Rattle.grid_model.specs.Places.{setting_place}
use Rattle.grid_model.specs.Names.{is_among, mentioned, number_of}
use Rattle.grid_model.specs.declared.parts.NodeId.{NodeId}
use Rattle.grid_model.specs.declared.parts.Device.{Device}
use Rattle.grid_model.specs.declared.parts.Meter.{Meter}
use Rattle.grid_model.specs.declared.parts.Setting.{Setting}
use Rattle.grid_reader.specs.declared.row.Row.{Row}
use Rattle.grid_reader.specs.declared.row.Row.TheVariants as row
use Rattle.grid_reader.specs.declared.fault.GridRule.{GridRule}
use Rattle.grid_reader.specs.declared.fault.GridRule.TheVariants.{DuplicateSource, DuplicateDevice, DuplicateMeter, DuplicateSetting, TooManyNodes, TooManyDevices, TooManyMeters}

-- Rows stand newest first: the tail of a list holds the rows before its first.

-- the nodes in the order of their first mention, in a device row FROM before TO
abbrev pub nodes_of : List Row → List (List ℕ)
nodes_of [] = []
nodes_of (row.Source node ∷ earlier) = mentioned (nodes_of earlier) node
nodes_of (row.Device d ∷ earlier) = mentioned (mentioned (nodes_of earlier) d.from) d.to
nodes_of (row.Meter m ∷ earlier) = mentioned (nodes_of earlier) m.node
nodes_of (row.Setting s ∷ earlier) = nodes_of earlier

-- the number of a node that these rows mention
abbrev pub node_id : List Row → List ℕ → NodeId
node_id rows node = record { 0 = number_of (nodes_of rows) node }

-- the names of the sources, of the devices and of the meters, in the order of their rows
abbrev pub source_names : List Row → List (List ℕ)
source_names [] = []
source_names (row.Source node ∷ earlier) = source_names earlier ++ node ∷ []
source_names (row.Device d ∷ earlier) = source_names earlier
source_names (row.Meter m ∷ earlier) = source_names earlier
source_names (row.Setting s ∷ earlier) = source_names earlier

abbrev pub device_names : List Row → List (List ℕ)
device_names [] = []
device_names (row.Source node ∷ earlier) = device_names earlier
device_names (row.Device d ∷ earlier) = device_names earlier ++ d.name ∷ []
device_names (row.Meter m ∷ earlier) = device_names earlier
device_names (row.Setting s ∷ earlier) = device_names earlier

abbrev pub meter_names : List Row → List (List ℕ)
meter_names [] = []
meter_names (row.Source node ∷ earlier) = meter_names earlier
meter_names (row.Device d ∷ earlier) = meter_names earlier
meter_names (row.Meter m ∷ earlier) = meter_names earlier ++ m.name ∷ []
meter_names (row.Setting s ∷ earlier) = meter_names earlier

-- the sources, the devices and the meters, each in the order of its rows
abbrev pub sources_of : List Row → List NodeId
sources_of [] = []
sources_of (row.Source node ∷ earlier) = sources_of earlier ++ node_id (row.Source node ∷ earlier) node ∷ []
sources_of (row.Device d ∷ earlier) = sources_of earlier
sources_of (row.Meter m ∷ earlier) = sources_of earlier
sources_of (row.Setting s ∷ earlier) = sources_of earlier

abbrev pub devices_of : List Row → List Device
devices_of [] = []
devices_of (row.Source node ∷ earlier) = devices_of earlier
devices_of (row.Device d ∷ earlier) =
    devices_of earlier
    ++ record {
      name = d.name;
      kind = d.kind;
      from = node_id (row.Device d ∷ earlier) d.from;
      to = node_id (row.Device d ∷ earlier) d.to;
      weight = d.weight;
      starts_closed = d.starts_closed;
    } ∷ []
devices_of (row.Meter m ∷ earlier) = devices_of earlier
devices_of (row.Setting s ∷ earlier) = devices_of earlier

abbrev pub meters_of : List Row → List Meter
meters_of [] = []
meters_of (row.Source node ∷ earlier) = meters_of earlier
meters_of (row.Device d ∷ earlier) = meters_of earlier
meters_of (row.Meter m ∷ earlier) =
    meters_of earlier ++ record { name = m.name; node = node_id (row.Meter m ∷ earlier) m.node; customers = m.customers } ∷ []
meters_of (row.Setting s ∷ earlier) = meters_of earlier

-- call, gasp, ping_down, ping_up, powerup; live_hold, grace, ok_hold in seconds
abbrev pub default_settings : List ℕ
default_settings = 30 ∷ 60 ∷ 20 ∷ 50 ∷ 60 ∷ 900 ∷ 300 ∷ 3600 ∷ []

-- each setting with the value of its row, or its default
abbrev pub settings_of : List Row → List ℕ
settings_of [] = default_settings
settings_of (row.Source node ∷ earlier) = settings_of earlier
settings_of (row.Device d ∷ earlier) = settings_of earlier
settings_of (row.Meter m ∷ earlier) = settings_of earlier
settings_of (row.Setting s ∷ earlier) = slice_set (settings_of earlier) (setting_place s.setting) s.value

abbrev pub parts_of : List Row → Parts
parts_of rows = record {
  nodes = nodes_of rows;
  sources = sources_of rows;
  devices = devices_of rows;
  meters = meters_of rows;
  settings = settings_of rows;
}

-- whether a row sets the setting
abbrev pub has_setting : List Row → Setting → Bool
has_setting [] setting = false
has_setting (row.Source node ∷ earlier) setting = has_setting earlier setting
has_setting (row.Device d ∷ earlier) setting = has_setting earlier setting
has_setting (row.Meter m ∷ earlier) setting = has_setting earlier setting
has_setting (row.Setting s ∷ earlier) setting = (setting_place s.setting == setting_place setting) || has_setting earlier setting

-- the rule that a row breaks where an earlier row of its sort has the name
abbrev pub duplicate_in : List Row → Row → Option GridRule
duplicate_in earlier (row.Source node) = if is_among (source_names earlier) node then Some DuplicateSource else None
duplicate_in earlier (row.Device d) = if is_among (device_names earlier) d.name then Some DuplicateDevice else None
duplicate_in earlier (row.Meter m) = if is_among (meter_names earlier) m.name then Some DuplicateMeter else None
duplicate_in earlier (row.Setting s) = if has_setting earlier s.setting then Some DuplicateSetting else None

-- the rule that rows break where they mention too much
abbrev pub excess_in : List Row → Option GridRule
excess_in rows =
    if nat_lt 200000 (length (nodes_of rows)) then Some TooManyNodes
    else (if nat_lt 400000 (length (device_names rows)) then Some TooManyDevices
    else (if nat_lt 500000 (length (meter_names rows)) then Some TooManyMeters else None))

-- the first, or else the second
abbrev pub or_else : Option GridRule → Option GridRule → Option GridRule
or_else (Some rule) other = Some rule
or_else None other = other

-- the first rule that a row breaks after these
abbrev pub broken_after : List Row → Row → Option GridRule
broken_after earlier row = or_else (duplicate_in earlier row) (excess_in (row ∷ earlier))
