-- What a line of the bounds part says by itself.
use Rattle.std.specs.Prelude.{ℕ, Bool, ◌==◌, ◌&&◌, ◌||◌, not, nat_le, List, [], ◌∷◌, length, Option, Some, None, Result, Ok, Err, if◌then◌else◌, codes, position, ok_or}
use Rattle.std.specs.List.{list_any}
use Rattle.std.specs.Str.{bytes_eq}
use Rattle.grid_model.specs.Parts.{Parts}
use Rattle.grid_model.specs.Name.{is_name}
use Rattle.grid_model.specs.Names.{name_eq}
use Rattle.grid_model.specs.declared.parts.NodeId.{NodeId}
use Rattle.grid_model.specs.declared.parts.DeviceId.{DeviceId}
use Rattle.event_rules.specs.Lines.{most_line}
use Rattle.event_rules.specs.Fields.{between_commas}
use Rattle.event_rules.specs.Decimals.{decimal_within}
use Rattle.bound_table.specs.declared.bounds.BoundRule.{BoundRule}
use Rattle.bound_table.specs.declared.bounds.BoundRule.TheVariants.{BadRow, BadName, BadNumber, UnknownDevice, UnknownNode}
use Rattle.bound_table.specs.declared.bound_line.BoundLine.{BoundLine}
use Rattle.bound_table.specs.declared.bound_line.BoundLine.TheVariants.{Cut, Row, End}
use Rattle.bound_table.specs.Sound.{most_cost, most_depth}

-- at most 512 bytes, none of them a CR or a double quote
abbrev pub is_plain : List ℕ → Bool
is_plain line = nat_le (length line) most_line && not (list_any (λ b. (b == 13) || (b == 34)) line)

-- COST behind the first word
abbrev pub cost_of_fields : List (List ℕ) → Result ℕ BoundRule
cost_of_fields (word ∷ cost ∷ []) = ok_or (decimal_within 0 most_cost cost) BadNumber
cost_of_fields fields = Err BadRow

-- the cost in the first line of the bounds part
unfoldable pub cost_of : List ℕ → Result ℕ BoundRule
cost_of line = if is_plain line then cost_of_fields (between_commas line) else Err BadRow

-- the device of a place among the devices, where there is one
abbrev pub device_by : Option ℕ → Result DeviceId BoundRule
device_by None = Err UnknownDevice
device_by (Some d) = Ok (record { 0 = d })

-- the device of a name
abbrev pub device_of : Parts → List ℕ → Result DeviceId BoundRule
device_of g name = device_by (position (λ d. name_eq name d.name) g.devices)

-- the node of a place among the nodes, where there is one
abbrev pub node_by : Option ℕ → Result NodeId BoundRule
node_by None = Err UnknownNode
node_by (Some n) = Ok (record { 0 = n })

-- the node of a name
abbrev pub node_of : Parts → List ℕ → Result NodeId BoundRule
node_of g name = node_by (position (name_eq name) g.nodes)

-- a cut at a device that was found
abbrev pub cut_with : Result DeviceId BoundRule → Result BoundLine BoundRule
cut_with (Err rule) = Err rule
cut_with (Ok device) = Ok (Cut device)

-- DEVICE
abbrev pub cut_of : Parts → List (List ℕ) → Result BoundLine BoundRule
cut_of g (device ∷ []) = if is_name device then cut_with (device_of g device) else Err BadName
cut_of g fields = Err BadRow

-- a name, or `-` for none
abbrev pub is_parent : List ℕ → Bool
is_parent word = bytes_eq word (codes "-") || is_name word

-- a parent that was found
abbrev pub parent_with : Result DeviceId BoundRule → Result (Option DeviceId) BoundRule
parent_with (Err rule) = Err rule
parent_with (Ok device) = Ok (Some device)

-- the device that feeds the node
abbrev pub parent_of : Parts → List ℕ → Result (Option DeviceId) BoundRule
parent_of g word = if bytes_eq word (codes "-") then Ok None else parent_with (device_of g word)

-- a row at a node and below a parent that were found, the node first
abbrev pub row_with : Result NodeId BoundRule → Result (Option DeviceId) BoundRule → ℕ → ℕ → ℕ → Result BoundLine BoundRule
row_with (Err rule) parent depth live dark = Err rule
row_with (Ok node) (Err rule) depth live dark = Err rule
row_with (Ok node) (Ok parent) depth live dark = Ok (Row (record { node = node; parent = parent; depth = depth; live = live; dark = dark }))

-- a row whose numbers are of their form and range
abbrev pub row_by : Result NodeId BoundRule → Result (Option DeviceId) BoundRule → Option ℕ → Option ℕ → Option ℕ → Result BoundLine BoundRule
row_by node parent (Some depth) (Some live) (Some dark) = row_with node parent depth live dark
row_by node parent depth live dark = Err BadNumber

-- NODE,PARENT,DEPTH,LIVE,DARK
abbrev pub row_of : Parts → List (List ℕ) → Result BoundLine BoundRule
row_of g (node ∷ parent ∷ depth ∷ live ∷ dark ∷ []) =
    if is_name node && is_parent parent
    then row_by (node_of g node) (parent_of g parent) (decimal_within 0 most_depth depth) (decimal_within 0 most_cost live) (decimal_within 0 most_cost dark) else Err BadName
row_of g fields = Err BadRow

-- nothing behind the word
abbrev pub end_of : List (List ℕ) → Result BoundLine BoundRule
end_of [] = Ok End
end_of fields = Err BadRow

-- cut,DEVICE where a cut may come, or row,NODE,PARENT,DEPTH,LIVE,DARK, or endbounds
abbrev pub line_of_fields : Parts → Bool → List (List ℕ) → Result BoundLine BoundRule
line_of_fields g may_cut [] = Err BadRow
line_of_fields g may_cut (word ∷ fields) =
    if bytes_eq word (codes "cut") && may_cut then cut_of g fields
    else (if bytes_eq word (codes "row") then row_of g fields
    else (if bytes_eq word (codes "endbounds") then end_of fields else Err BadRow))

-- a later line of the bounds part, or the first rule that it breaks by itself
unfoldable pub line_of : Parts → Bool → List ℕ → Result BoundLine BoundRule
line_of g may_cut line = if is_plain line then line_of_fields g may_cut (between_commas line) else Err BadRow
