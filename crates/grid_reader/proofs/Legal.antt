-- Rows that break no rule: the lines of a text say only such rows.
use Rattle.std.proofs.Common.{◌≡◌, ℕ, ◌+◌, ◌<◌, ◌≤◌, Bool, true, false, refl, subst, arith, List, [], ◌∷◌, length}
use Rattle.std.specs.Prelude.{◌&&◌, nat_le, Option, Some, None, codes}
use Rattle.std.specs.Option.{option_map}
use Rattle.std.specs.Str.{bytes_eq}
use Rattle.std.proofs.lemmas.Bool.{and_parts, leb-true, cond_both}
use Rattle.std.proofs.lemmas.List.{length_push}
use Rattle.grid_model.specs.Name.{is_name}
use Rattle.grid_model.specs.Names.{name_eq}
use Rattle.grid_model.specs.Places.{setting_place}
use Rattle.grid_model.specs.declared.parts.Kind.{Kind}
use Rattle.grid_model.specs.declared.parts.Kind.TheVariants as kind
use Rattle.grid_model.specs.declared.parts.Setting.{Setting}
use Rattle.grid_model.specs.declared.parts.Setting.TheVariants as setting
use Rattle.event_rules.specs.Lines.{is_skipped}
use Rattle.event_rules.specs.Decimals.{is_decimal, decimal_within}
use Rattle.event_rules.specs.Decimals as decimals
use Rattle.fault_weights.specs.Kinds.{default_weight}
use Rattle.fault_weights.specs.Rates.{rate_weight}
use Rattle.fault_weights.proofs.Doublings.{bounded}
use Rattle.grid_reader.specs.declared.row.Row.{Row}
use Rattle.grid_reader.specs.declared.row.Row.TheVariants as row
use Rattle.grid_reader.specs.declared.row.DeviceRow.{DeviceRow}
use Rattle.grid_reader.specs.declared.row.MeterRow.{MeterRow}
use Rattle.grid_reader.specs.declared.row.SettingRow.{SettingRow}
use Rattle.grid_reader.specs.declared.fault.GridRule.{GridRule}
use Rattle.grid_reader.specs.declared.fault.GridRule.TheVariants.{BadName, SameEnds}
use Rattle.grid_reader.specs.Words.{kind_named, setting_named, weight_or_rate, weight_of, value_of, most_weight}
use Rattle.grid_reader.specs.Shapes.{Shape, SourceShape, DeviceShape, MeterShape, SettingShape, shape_of}
use Rattle.grid_reader.specs.Rows.{RowReading, IsRow, Breaks, device_between, device_of_kind, device_row, meter_serving, meter_row, setting_to, setting_row, row_of_shape, row_of}
use Rattle.grid_reader.specs.Network.{devices_of, broken_after}
use Rattle.grid_reader.specs.Text.{Reading, Rows, Stopped, device_lines_with, unless_broken, with_row, with_line, with_lines}

-- names, ends that differ, and a weight within its range
pub record IsFairDevice (d : DeviceRow) : Type 0 where
  pub name : is_name d.name ≡ true
  pub from : is_name d.from ≡ true
  pub to : is_name d.to ≡ true
  pub apart : name_eq d.from d.to ≡ false
  pub weight : 1 ≤ d.weight
  pub most_weight : d.weight ≤ 1000000

-- names, and customers within their range
pub record IsFairMeter (m : MeterRow) : Type 0 where
  pub name : is_name m.name ≡ true
  pub node : is_name m.node ≡ true
  pub customers : 1 ≤ m.customers
  pub most_customers : m.customers ≤ 1000000

-- a value within the range of its setting
pub record IsFairSetting (s : SettingRow) : Type 0 where
  pub weight : setting_place s.setting < 5 → 1 ≤ s.value
  pub most_weight : setting_place s.setting < 5 → s.value ≤ 1000000
  pub hold : s.value ≤ 10000000

-- the row breaks no rule by itself
abbrev pub KeepsItself : Row → Type 0
KeepsItself (row.Source node) = is_name node ≡ true
KeepsItself (row.Device d) = IsFairDevice d
KeepsItself (row.Meter m) = IsFairMeter m
KeepsItself (row.Setting s) = IsFairSetting s

-- no row breaks a rule, by itself or after the earlier ones
abbrev pub IsLegal : List Row → Type 0
IsLegal [] = Unit {0}
IsLegal (r ∷ earlier) = IsLegal earlier × KeepsItself r × (broken_after earlier r ≡ None)

-- what a line says, where it says a row, keeps the rules on one row
abbrev IsFair : RowReading → Type 0
IsFair (IsRow r) = KeepsItself r
IsFair (Breaks rule) = Unit {0}

-- a number that is given lies within these bounds
abbrev IsWithin : ℕ → ℕ → Option ℕ → Type 0
IsWithin least most None = Unit {0}
IsWithin least most (Some v) = (least ≤ v) × (v ≤ most)

decimal_is_within : (least most : ℕ) (text : List ℕ) → IsWithin least most (decimal_within least most text)
decimal_is_within least most text =
    let v : ℕ = decimals.value_of text in
    cond_both (is_decimal text && (nat_le least v && nat_le v most)) (Some v) None (IsWithin least most)
    (λ e. let two = and_parts (is_decimal text) (nat_le least v && nat_le v most) e in
    let both = and_parts (nat_le least v) (nat_le v most) two.1 in
    (leb-true least v both.0, leb-true v most both.1))
    (λ e. tt)

-- the weight of a rate is within the range of weights
rate_is_within : (o : Option ℕ) → IsWithin 1 1000000 o → IsWithin 1 1000000 (option_map rate_weight o)
rate_is_within None h = tt
rate_is_within (Some rate) h = let b = bounded rate h.0 h.1 in let low = b.0 in let high = b.1 in (omega arith, omega arith)

number_is_within : (text : List ℕ) → IsWithin 1 1000000 (weight_or_rate text)
number_is_within [] = tt
number_is_within (b ∷ rest) =
    cond_both (bytes_eq (b ∷ []) (codes "r")) (option_map rate_weight (decimal_within 1 most_weight rest)) (decimal_within 1 most_weight (b ∷ rest)) (IsWithin 1 1000000)
    (λ e. rate_is_within (decimal_within 1 most_weight rest) (decimal_is_within 1 most_weight rest))
    (λ e. decimal_is_within 1 most_weight (b ∷ rest))

default_is_within : (k : Kind) → IsWithin 1 1000000 (Some (default_weight k))
default_is_within kind.Fuse = (omega arith, omega arith)
default_is_within kind.Transformer = (omega arith, omega arith)
default_is_within kind.Recloser = (omega arith, omega arith)
default_is_within kind.Breaker = (omega arith, omega arith)
default_is_within kind.Line = (omega arith, omega arith)
default_is_within kind.Switch = (omega arith, omega arith)
default_is_within kind.Tie = (omega arith, omega arith)

weight_is_within : (k : Kind) (text : List ℕ) → IsWithin 1 1000000 (weight_of k text)
weight_is_within k text =
    cond_both (bytes_eq text (codes "-")) (Some (default_weight k)) (weight_or_rate text) (IsWithin 1 1000000) (λ e. default_is_within k) (λ e. number_is_within text)

-- a value that is given is within the range of its setting
abbrev IsFairValue : Setting → Option ℕ → Type 0
IsFairValue s None = Unit {0}
IsFairValue s (Some v) = IsFairSetting (record { setting = s; value = v })

weight_is_fair : (s : Setting) (o : Option ℕ) → IsWithin 1 1000000 o → IsFairValue s o
weight_is_fair s None h = tt
weight_is_fair s (Some v) h = let low = h.0 in let high = h.1 in record { weight = λ l. low; most_weight = λ l. high; hold = omega arith }

hold_is_fair : (s : Setting) (o : Option ℕ) → 5 ≤ setting_place s → IsWithin 0 10000000 o → IsFairValue s o
hold_is_fair s None late h = tt
hold_is_fair s (Some v) late h = record { weight = λ l. absurd (omega arith); most_weight = λ l. absurd (omega arith); hold = h.1 }

value_is_fair : (s : Setting) (text : List ℕ) → IsFairValue s (value_of s text)
value_is_fair setting.Call text = weight_is_fair setting.Call (decimal_within 1 most_weight text) (decimal_is_within 1 most_weight text)
value_is_fair setting.Gasp text = weight_is_fair setting.Gasp (decimal_within 1 most_weight text) (decimal_is_within 1 most_weight text)
value_is_fair setting.PingDown text = weight_is_fair setting.PingDown (decimal_within 1 most_weight text) (decimal_is_within 1 most_weight text)
value_is_fair setting.PingUp text = weight_is_fair setting.PingUp (decimal_within 1 most_weight text) (decimal_is_within 1 most_weight text)
value_is_fair setting.Powerup text = weight_is_fair setting.Powerup (decimal_within 1 most_weight text) (decimal_is_within 1 most_weight text)
value_is_fair setting.LiveHold text = hold_is_fair setting.LiveHold (decimal_within 0 10000000 text) (omega arith) (decimal_is_within 0 10000000 text)
value_is_fair setting.Grace text = hold_is_fair setting.Grace (decimal_within 0 10000000 text) (omega arith) (decimal_is_within 0 10000000 text)
value_is_fair setting.OkHold text = hold_is_fair setting.OkHold (decimal_within 0 10000000 text) (omega arith) (decimal_is_within 0 10000000 text)

between_is_fair : (name : List ℕ) (k : Kind) (from to : List ℕ) (closed : Bool) (o : Option ℕ) → (is_name name ≡ true) × (is_name from ≡ true) × (is_name to ≡ true) → IsWithin 1 1000000 o → IsFair (device_between name k from to closed o)
between_is_fair name k from to closed None names h = tt
between_is_fair name k from to closed (Some weight) names h =
    cond_both (name_eq from to) (Breaks SameEnds) (IsRow (row.Device (record { name = name; kind = k; from = from; to = to; starts_closed = closed; weight = weight }))) IsFair
    (λ e. tt)
    (λ e. record { name = names.0; from = names.1; to = names.2; apart = e; weight = h.0; most_weight = h.1 })

kind_is_fair : (name : List ℕ) (o : Option Kind) (from to : List ℕ) (closed : Bool) (weight : List ℕ) → (is_name name ≡ true) × (is_name from ≡ true) × (is_name to ≡ true) → IsFair (device_of_kind name o from to closed weight)
kind_is_fair name None from to closed weight names = tt
kind_is_fair name (Some k) from to closed weight names = between_is_fair name k from to closed (weight_of k weight) names (weight_is_within k weight)

device_is_fair : (name kind from to : List ℕ) (closed : Bool) (weight : List ℕ) → IsFair (device_row name kind from to closed weight)
device_is_fair name kind from to closed weight =
    cond_both (is_name name && (is_name from && is_name to)) (device_of_kind name (kind_named kind) from to closed weight) (Breaks BadName) IsFair
    (λ e. let one = and_parts (is_name name) (is_name from && is_name to) e in
    let two = and_parts (is_name from) (is_name to) one.1 in
    kind_is_fair name (kind_named kind) from to closed weight (one.0, two.0, two.1))
    (λ e. tt)

serving_is_fair : (name node : List ℕ) (o : Option ℕ) → (is_name name ≡ true) × (is_name node ≡ true) → IsWithin 1 1000000 o → IsFair (meter_serving name node o)
serving_is_fair name node None names h = tt
serving_is_fair name node (Some customers) names h = record { name = names.0; node = names.1; customers = h.0; most_customers = h.1 }

meter_is_fair : (name node customers : List ℕ) → IsFair (meter_row name node customers)
meter_is_fair name node customers =
    cond_both (is_name name && is_name node) (meter_serving name node (decimal_within 1 most_weight customers)) (Breaks BadName) IsFair
    (λ e. serving_is_fair name node (decimal_within 1 most_weight customers) (and_parts (is_name name) (is_name node) e) (decimal_is_within 1 most_weight customers))
    (λ e. tt)

setting_to_is_fair : (s : Setting) (o : Option ℕ) → IsFairValue s o → IsFair (setting_to s o)
setting_to_is_fair s None h = tt
setting_to_is_fair s (Some value) h = h

setting_is_fair : (o : Option Setting) (value : List ℕ) → IsFair (setting_row o value)
setting_is_fair None value = tt
setting_is_fair (Some s) value = setting_to_is_fair s (value_of s value) (value_is_fair s value)

shape_is_fair : (o : Option Shape) → IsFair (row_of_shape o)
shape_is_fair None = tt
shape_is_fair (Some (SourceShape node)) = cond_both (is_name node) (IsRow (row.Source node)) (Breaks BadName) IsFair (λ e. e) (λ e. tt)
shape_is_fair (Some (DeviceShape name kind from to closed weight)) = device_is_fair name kind from to closed weight
shape_is_fair (Some (MeterShape name node customers)) = meter_is_fair name node customers
shape_is_fair (Some (SettingShape name value)) = setting_is_fair (setting_named name) value

line_is_fair : (line : List ℕ) → IsFair (row_of line)
unfolding row_of
line_is_fair line = shape_is_fair (shape_of line)

-- the row of a line breaks no rule by itself
pub row_keeps_itself : (line : List ℕ) (r : Row) → row_of line ≡ IsRow r → KeepsItself r
row_keeps_itself line r e = subst IsFair e (line_is_fair line)

-- the lines of the devices are as many as the devices
pub lines_counted : (earlier : List Row) (device_lines : List ℕ) (line : ℕ) (r : Row) → length device_lines ≡ length (devices_of earlier) → length (device_lines_with device_lines line r) ≡ length (devices_of (r ∷ earlier))
lines_counted earlier device_lines line (row.Source node) h = h
lines_counted earlier device_lines line (row.Device d) h = omega (arith, length_push {X = ℕ}, length_push (devices_of earlier))
lines_counted earlier device_lines line (row.Meter m) h = h
lines_counted earlier device_lines line (row.Setting s) h = h

-- the rows so far are legal, and as many lines of devices are kept as there are devices
abbrev pub IsLegalReading : Reading → Type 0
IsLegalReading (Rows rows device_lines next) = IsLegal rows × (length device_lines ≡ length (devices_of rows))
IsLegalReading (Stopped line rule) = Unit {0}

unless_broken_is_legal : (earlier : List Row) (device_lines : List ℕ) (line : ℕ) (r : Row) (o : Option GridRule) → (o ≡ None → IsLegal (r ∷ earlier)) → length device_lines ≡ length (devices_of earlier) → IsLegalReading (unless_broken earlier device_lines line r o)
unless_broken_is_legal earlier device_lines line r (Some rule) h count = tt
unless_broken_is_legal earlier device_lines line r None h count = (h refl, lines_counted earlier device_lines line r count)

with_row_is_legal : (earlier : List Row) (device_lines : List ℕ) (line : ℕ) (reading : RowReading) → IsFair reading → IsLegal earlier × (length device_lines ≡ length (devices_of earlier)) → IsLegalReading (with_row earlier device_lines line reading)
with_row_is_legal earlier device_lines line (Breaks rule) fair h = tt
with_row_is_legal earlier device_lines line (IsRow r) fair h = unless_broken_is_legal earlier device_lines line r (broken_after earlier r) (λ e. (h.0, fair, e)) h.1

-- one more line keeps what was read legal
pub line_is_legal : (reading : Reading) (line : List ℕ) → IsLegalReading reading → IsLegalReading (with_line reading line)
line_is_legal (Rows earlier device_lines next) line h =
    cond_both (is_skipped line) (Rows earlier device_lines (next + 1)) (with_row earlier device_lines next (row_of line)) IsLegalReading
    (λ e. h)
    (λ e. with_row_is_legal earlier device_lines next (row_of line) (line_is_fair line) h)
line_is_legal (Stopped at rule) line h = tt

-- and so do all lines
pub lines_are_legal : (reading : Reading) (ls : List (List ℕ)) → IsLegalReading reading → IsLegalReading (with_lines reading ls)
unfolding with_lines
lines_are_legal reading [] h = h
lines_are_legal reading (line ∷ rest) h = lines_are_legal (with_line reading line) rest (line_is_legal reading line h)

-- the rows of lines none of which is refused are legal
pub rows_are_legal : (ls : List (List ℕ)) (rows : List Row) (device_lines : List ℕ) (next : ℕ) → with_lines (Rows [] [] 1) ls ≡ Rows rows device_lines next → IsLegal rows × (length device_lines ≡ length (devices_of rows))
rows_are_legal ls rows device_lines next e = subst IsLegalReading e (lines_are_legal (Rows [] [] 1) ls (tt, refl))
