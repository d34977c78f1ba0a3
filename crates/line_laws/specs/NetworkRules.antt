-- The rules on a line of a network text behind earlier rows, in the order in which they are tried.
use Rattle.std.specs.Prelude.{◌≡◌, ℕ, Bool, true, false, ◌==◌, ◌&&◌, ◌||◌, not, nat_lt, List, [], ◌∷◌, ◌++◌, length, Option, Some, None, is_none, codes, if◌then◌else◌}
use Rattle.std.specs.Str.{bytes_eq}
use Rattle.grid_model.specs.Name.{is_name}
use Rattle.grid_model.specs.Names.{name_eq, is_among, mentioned}
use Rattle.grid_model.specs.declared.parts.Setting.{Setting}
use Rattle.event_rules.specs.Lines.{is_skipped, most_line}
use Rattle.event_rules.specs.Fields.{between_commas, has_no_fields}
use Rattle.event_rules.specs.Decimals.{decimal_within}
use Rattle.grid_reader.specs.declared.fault.GridRule.{GridRule}
use Rattle.grid_reader.specs.declared.fault.GridRule.TheVariants.{BadRow, BadName, UnknownKind, UnknownSetting, BadNumber, SameEnds, DuplicateSource, DuplicateDevice, DuplicateMeter, DuplicateSetting, TooManyNodes, TooManyDevices, TooManyMeters}
use Rattle.grid_reader.specs.Words.{kind_named, setting_named, state_named, weight_of, value_of, most_weight}
use Rattle.grid_reader.specs.Network.{nodes_of, source_names, device_names, meter_names, has_setting}
use Rattle.grid_reader.specs.Text.{Reading, Rows, Stopped, with_line}
use Rattle.line_laws.specs.FirstRule.{Tried, Where, first_broken, field, is_one_of}

-- A line is source,NODE or device,NAME,KIND,FROM,TO,STATE,WEIGHT or meter,NAME,NODE,CUSTOMERS or set,SETTING,VALUE.

abbrev pub is_source : List (List ℕ) → Bool
is_source fields = bytes_eq (field fields 0) (codes "source")

abbrev pub is_device : List (List ℕ) → Bool
is_device fields = bytes_eq (field fields 0) (codes "device")

abbrev pub is_meter : List (List ℕ) → Bool
is_meter fields = bytes_eq (field fields 0) (codes "meter")

abbrev pub is_setting : List (List ℕ) → Bool
is_setting fields = bytes_eq (field fields 0) (codes "set")

-- how many fields a line of this sort has
abbrev pub count_with : List (List ℕ) → ℕ
count_with fields = if is_source fields then 2 else (if is_setting fields then 3 else (if is_meter fields then 4 else 7))

-- of no sort, not as many fields as lines of its sort have, or a device that is neither closed nor open
abbrev pub has_bad_shape : List (List ℕ) → Bool
has_bad_shape fields =
    not (is_one_of (field fields 0) (codes "source" ∷ codes "device" ∷ codes "meter" ∷ codes "set" ∷ []))
    || (not (length fields == count_with fields)
    || (is_device fields && is_none (state_named (field fields 5))))

-- the node of a source, the name and the ends of a device, or the name and the node of a meter is no name
abbrev pub has_bad_name : List (List ℕ) → Bool
has_bad_name fields =
    if is_source fields then not (is_name (field fields 1))
    else (if is_meter fields then not (is_name (field fields 1) && is_name (field fields 2))
    else (is_device fields && not (is_name (field fields 1) && (is_name (field fields 3) && is_name (field fields 4)))))

-- what is there, and has no number
abbrev pub has_no_number : {Word : Type 0} → Option Word → (Word → Option ℕ) → Bool
has_no_number None number = false
has_no_number (Some word) number = is_none (number word)

-- the weight of a device, the customers of a meter or the value of a setting isn't of its form or range
abbrev pub has_bad_number : List (List ℕ) → Bool
has_bad_number fields =
    if is_device fields then has_no_number (kind_named (field fields 2)) (λ kind. weight_of kind (field fields 6))
    else (if is_meter fields then is_none (decimal_within 1 most_weight (field fields 3))
    else (is_setting fields && has_no_number (setting_named (field fields 1)) (λ setting. value_of setting (field fields 2))))

-- what earlier rows say: the nodes that they mention, the names of their sources, devices and meters, and what they set
pub record Earlier : Type 0 where
  pub nodes : List (List ℕ)
  pub sources : List (List ℕ)
  pub devices : List (List ℕ)
  pub meters : List (List ℕ)
  pub sets : Setting → Bool

-- the rows so far, where no line broke a rule
abbrev pub earlier_in : Reading → Earlier
earlier_in (Rows rows lines number) = record {
  nodes = nodes_of rows;
  sources = source_names rows;
  devices = device_names rows;
  meters = meter_names rows;
  sets = has_setting rows;
}
earlier_in (Stopped line rule) = record { nodes = []; sources = []; devices = []; meters = []; sets = λ setting. false }

-- an earlier row sets it
abbrev pub is_set : Earlier → Option Setting → Bool
is_set earlier None = false
is_set earlier (Some setting) = earlier.sets setting

-- the nodes that are mentioned up to this line
abbrev pub nodes_with : Earlier → List (List ℕ) → List (List ℕ)
nodes_with earlier fields =
    if is_source fields then mentioned earlier.nodes (field fields 1)
    else (if is_device fields then mentioned (mentioned earlier.nodes (field fields 3)) (field fields 4)
    else (if is_meter fields then mentioned earlier.nodes (field fields 2) else earlier.nodes))

-- names, and one more where there is one
abbrev pub names_with : List (List ℕ) → Bool → List ℕ → List (List ℕ)
names_with names is_new name = if is_new then names ++ name ∷ [] else names

-- the rules, each with whether the line breaks it
abbrev pub network_rules : Earlier → List ℕ → List (Tried GridRule)
network_rules earlier line =
    let fields = between_commas line in
    Where BadRow (nat_lt most_line (length line) || (has_no_fields line || has_bad_shape fields))
    ∷ Where BadName (has_bad_name fields)
    ∷ Where UnknownKind (is_device fields && is_none (kind_named (field fields 2)))
    ∷ Where UnknownSetting (is_setting fields && is_none (setting_named (field fields 1)))
    ∷ Where BadNumber (has_bad_number fields)
    ∷ Where SameEnds (is_device fields && name_eq (field fields 3) (field fields 4))
    ∷ Where DuplicateSource (is_source fields && is_among earlier.sources (field fields 1))
    ∷ Where DuplicateDevice (is_device fields && is_among earlier.devices (field fields 1))
    ∷ Where DuplicateMeter (is_meter fields && is_among earlier.meters (field fields 1))
    ∷ Where DuplicateSetting (is_setting fields && is_set earlier (setting_named (field fields 1)))
    ∷ Where TooManyNodes (nat_lt 200000 (length (nodes_with earlier fields)))
    ∷ Where TooManyDevices (nat_lt 400000 (length (names_with earlier.devices (is_device fields) (field fields 1))))
    ∷ Where TooManyMeters (nat_lt 500000 (length (names_with earlier.meters (is_meter fields) (field fields 1))))
    ∷ []

-- the rule that a line broke, where one did
abbrev pub rule_in : Reading → Option GridRule
rule_in (Rows rows lines number) = None
rule_in (Stopped line rule) = Some rule

-- behind lines of which none broke a rule: a line that isn't skipped is refused by the first rule that it breaks
pub record FirstRuleStops (before : Reading) (line : List ℕ) : Type 0 where
  pub skipped : is_skipped line ≡ true → rule_in (with_line before line) ≡ None
  pub refused : is_skipped line ≡ false → rule_in (with_line before line) ≡ first_broken (network_rules (earlier_in before) line)

abbrev pub NetworkRulesAreInOrder : Type 0
NetworkRulesAreInOrder = (before : Reading) (line : List ℕ) → rule_in before ≡ None → FirstRuleStops before line
