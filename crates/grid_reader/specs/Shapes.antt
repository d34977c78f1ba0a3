-- The shapes of a line of a network text: its sort and its fields.
use Rattle.std.specs.Prelude.{ℕ, ◌&&◌, not, Bool, List, [], ◌∷◌, length, nat_le, Option, Some, None, if◌then◌else◌, codes}
use Rattle.std.specs.Str.{bytes_eq}
use Rattle.event_rules.specs.Lines.{most_line}
use Rattle.event_rules.specs.Fields.{between_commas, has_no_fields}
use Rattle.grid_reader.specs.Words.{state_named}

pub data Shape : Type 0 where
  SourceShape : (node : List ℕ) → Shape
  DeviceShape : (name kind from to : List ℕ) (is_closed : Bool) (weight : List ℕ) → Shape
  MeterShape : (name node customers : List ℕ) → Shape
  SettingShape : (setting value : List ℕ) → Shape

-- source,NODE
abbrev pub source_shape : List ℕ → List ℕ → Option Shape
source_shape word node = if bytes_eq word (codes "source") then Some (SourceShape node) else None

-- set,SETTING,VALUE
abbrev pub setting_shape : List ℕ → List ℕ → List ℕ → Option Shape
setting_shape word setting value = if bytes_eq word (codes "set") then Some (SettingShape setting value) else None

-- meter,NAME,NODE,CUSTOMERS
abbrev pub meter_shape : List ℕ → List ℕ → List ℕ → List ℕ → Option Shape
meter_shape word name node customers = if bytes_eq word (codes "meter") then Some (MeterShape name node customers) else None

abbrev pub shape_in_state : List ℕ → List ℕ → List ℕ → List ℕ → Option Bool → List ℕ → Option Shape
shape_in_state name kind from to None weight = None
shape_in_state name kind from to (Some is_closed) weight = Some (DeviceShape name kind from to is_closed weight)

-- device,NAME,KIND,FROM,TO,STATE,WEIGHT
abbrev pub device_shape : List ℕ → List ℕ → List ℕ → List ℕ → List ℕ → List ℕ → List ℕ → Option Shape
device_shape word name kind from to state weight =
    if bytes_eq word (codes "device") then shape_in_state name kind from to (state_named state) weight else None

-- the shape of these fields
abbrev pub shape_of_fields : List (List ℕ) → Option Shape
shape_of_fields (word ∷ node ∷ []) = source_shape word node
shape_of_fields (word ∷ setting ∷ value ∷ []) = setting_shape word setting value
shape_of_fields (word ∷ name ∷ node ∷ customers ∷ []) = meter_shape word name node customers
shape_of_fields (word ∷ name ∷ kind ∷ from ∷ to ∷ state ∷ weight ∷ []) = device_shape word name kind from to state weight
shape_of_fields fields = None

-- the shape of a line that isn't too long and has fields
unfoldable pub shape_of : List ℕ → Option Shape
shape_of line = if nat_le (length line) most_line && not (has_no_fields line) then shape_of_fields (between_commas line) else None
