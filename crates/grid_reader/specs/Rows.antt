-- What a line of a network text says by itself, or the first rule that it breaks by itself.
use Rattle.std.specs.Prelude.{ℕ, ◌&&◌, Bool, List, Option, Some, None, if◌then◌else◌}
use Rattle.grid_model.specs.Name.{is_name}
use Rattle.grid_model.specs.Names.{name_eq}
use Rattle.grid_model.specs.declared.parts.Kind.{Kind}
use Rattle.grid_model.specs.declared.parts.Setting.{Setting}
use Rattle.grid_reader.specs.declared.row.Row.{Row}
use Rattle.grid_reader.specs.declared.row.Row.TheVariants as row
use Rattle.grid_reader.specs.declared.fault.GridRule.{GridRule}
use Rattle.grid_reader.specs.declared.fault.GridRule.TheVariants.{BadRow, BadName, UnknownKind, UnknownSetting, BadNumber, SameEnds}
use Rattle.grid_reader.specs.Words.{kind_named, setting_named, weight_of, value_of, most_weight}
use Rattle.grid_reader.specs.Shapes.{Shape, SourceShape, DeviceShape, MeterShape, SettingShape, shape_of}
use Rattle.event_rules.specs.Decimals.{decimal_within}

pub data RowReading : Type 0 where
  IsRow : (row : Row) → RowReading
  Breaks : (rule : GridRule) → RowReading

abbrev pub source_row : List ℕ → RowReading
source_row node = if is_name node then IsRow (row.Source node) else Breaks BadName

-- the rules on a device row, from the last to the first
abbrev pub device_between : List ℕ → Kind → List ℕ → List ℕ → Bool → Option ℕ → RowReading
device_between name kind from to is_closed None = Breaks BadNumber
device_between name kind from to is_closed (Some weight) =
    if name_eq from to then Breaks SameEnds
    else IsRow (row.Device (record { name = name; kind = kind; from = from; to = to; starts_closed = is_closed; weight = weight }))

abbrev pub device_of_kind : List ℕ → Option Kind → List ℕ → List ℕ → Bool → List ℕ → RowReading
device_of_kind name None from to is_closed weight = Breaks UnknownKind
device_of_kind name (Some kind) from to is_closed weight = device_between name kind from to is_closed (weight_of kind weight)

abbrev pub device_row : List ℕ → List ℕ → List ℕ → List ℕ → Bool → List ℕ → RowReading
device_row name kind from to is_closed weight =
    if is_name name && (is_name from && is_name to) then device_of_kind name (kind_named kind) from to is_closed weight else Breaks BadName

abbrev pub meter_serving : List ℕ → List ℕ → Option ℕ → RowReading
meter_serving name node None = Breaks BadNumber
meter_serving name node (Some customers) = IsRow (row.Meter (record { name = name; node = node; customers = customers }))

abbrev pub meter_row : List ℕ → List ℕ → List ℕ → RowReading
meter_row name node customers =
    if is_name name && is_name node then meter_serving name node (decimal_within 1 most_weight customers) else Breaks BadName

abbrev pub setting_to : Setting → Option ℕ → RowReading
setting_to setting None = Breaks BadNumber
setting_to setting (Some value) = IsRow (row.Setting (record { setting = setting; value = value }))

abbrev pub setting_row : Option Setting → List ℕ → RowReading
setting_row None value = Breaks UnknownSetting
setting_row (Some setting) value = setting_to setting (value_of setting value)

abbrev pub row_of_shape : Option Shape → RowReading
row_of_shape None = Breaks BadRow
row_of_shape (Some (SourceShape node)) = source_row node
row_of_shape (Some (DeviceShape name kind from to is_closed weight)) = device_row name kind from to is_closed weight
row_of_shape (Some (MeterShape name node customers)) = meter_row name node customers
row_of_shape (Some (SettingShape setting value)) = setting_row (setting_named setting) value

-- the row of a line, or the first rule that it breaks whatever rows stand before it
unfoldable pub row_of : List ℕ → RowReading
row_of line = row_of_shape (shape_of line)
