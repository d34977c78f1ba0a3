-- The bounds of a report: lines that don't begin with `bounds,`, then the bounds part, then nothing.
use Rattle.std.specs.Prelude.{ℕ, ◌+◌, ◌-◌, Bool, ◌==◌, true, nat_eq, nat_lt, List, [], ◌∷◌, ◌++◌, length, Option, Some, None, Result, Ok, Err, if◌then◌else◌, codes, slice_get, option_map}
use Rattle.std.specs.List.{starts_with}
use Rattle.grid_model.specs.Parts.{Parts}
use Rattle.grid_model.specs.declared.parts.DeviceId.{DeviceId}
use Rattle.event_rules.specs.Lines.{is_empty}
use Rattle.bound_table.specs.declared.bounds.BoundRow.{BoundRow}
use Rattle.bound_table.specs.declared.bounds.BoundRule.{BoundRule}
use Rattle.bound_table.specs.declared.bounds.BoundRule.TheVariants.{NoBounds, OutOfOrder, NoEnd, Trailing}
use Rattle.bound_table.specs.declared.bound_line.BoundLine.{BoundLine}
use Rattle.bound_table.specs.declared.bound_line.BoundLine.TheVariants.{Cut, Row, End}
use Rattle.bound_table.specs.Table.{Table}
use Rattle.bound_table.specs.ReportLines.{ended_lines, unended_part}
use Rattle.bound_table.specs.BoundLines.{cost_of, line_of}

-- before the bounds part, in it, behind it, or at the first line that breaks a rule
pub data Progress : Type 0 where
  Before : Progress
  Inside : (so_far : Table) → Progress
  Ended : (whole : Table) → Progress
  Stopped : (line : ℕ) (rule : BoundRule) → Progress

-- a number that is greater than the last one, where there is one
abbrev pub is_behind : ℕ → Option ℕ → Bool
is_behind n None = true
is_behind n (Some last) = nat_lt last n

-- the number of the last cut
abbrev pub last_cut : Table → Option ℕ
last_cut t = option_map (λ d. d.0) (slice_get t.cuts (length t.cuts - 1))

-- the number of the last row
abbrev pub last_row : Table → Option ℕ
last_row t = option_map (λ r. r.node.0) (slice_get t.rows (length t.rows - 1))

-- after a cut in the line of this number
abbrev pub with_cut : ℕ → Table → DeviceId → Progress
with_cut line t d =
    if is_behind d.0 (last_cut t) then Inside (record { cost = t.cost; cuts = t.cuts ++ d ∷ []; rows = t.rows }) else Stopped line OutOfOrder

-- after a row in the line of this number
abbrev pub with_row : ℕ → Table → BoundRow → Progress
with_row line t r =
    if is_behind r.node.0 (last_row t) then Inside (record { cost = t.cost; cuts = t.cuts; rows = t.rows ++ r ∷ [] }) else Stopped line OutOfOrder

-- after a later line of the bounds part
abbrev pub with_bound_line : ℕ → Table → Result BoundLine BoundRule → Progress
with_bound_line line t (Err rule) = Stopped line rule
with_bound_line line t (Ok (Cut d)) = with_cut line t d
with_bound_line line t (Ok (Row r)) = with_row line t r
with_bound_line line t (Ok End) = Ended t

-- no cut and no row yet
abbrev pub bare_table : ℕ → Table
bare_table cost = record { cost = cost; cuts = []; rows = [] }

-- after the first line of the bounds part
abbrev pub with_cost : ℕ → Result ℕ BoundRule → Progress
with_cost line (Err rule) = Stopped line rule
with_cost line (Ok cost) = Inside (bare_table cost)

-- the first line of the bounds part begins so
abbrev pub begins_bounds : List ℕ → Bool
begins_bounds line = starts_with nat_eq line (codes "bounds,")

-- a cut may come only before the rows
abbrev pub has_no_rows : Table → Bool
has_no_rows t = length t.rows == 0

-- after a line of this number
abbrev pub with_line : Parts → ℕ → List ℕ → Progress → Progress
with_line g number line Before = if begins_bounds line then with_cost number (cost_of line) else Before
with_line g number line (Inside t) = with_bound_line number t (line_of g (has_no_rows t) line)
with_line g number line (Ended t) = Stopped number Trailing
with_line g number line (Stopped k rule) = Stopped k rule

-- the bounds of a report, or the first line that breaks a rule and the first rule that it breaks
pub data ReportReading : Type 0 where
  IsRead : (bounds : Table) → ReportReading
  IsRefused : (line : ℕ) (rule : BoundRule) → ReportReading

-- behind the last line, where this part has no end and the next number
abbrev pub at_end : Progress → ℕ → List ℕ → ReportReading
at_end Before next part = IsRefused next NoBounds
at_end (Inside t) next part = IsRefused next NoEnd
at_end (Ended t) next part = if is_empty part then IsRead t else IsRefused next Trailing
at_end (Stopped line rule) next part = IsRefused line rule

-- after lines from this number on, and a part without an end
unfoldable pub after_lines : Parts → Progress → ℕ → List (List ℕ) → List ℕ → ReportReading
after_lines g progress next [] part = at_end progress next part
after_lines g progress next (line ∷ lines) part = after_lines g (with_line g next line progress) (next + 1) lines part

-- after a text whose first line has this number
unfoldable pub after_text : Parts → Progress → ℕ → List ℕ → ReportReading
after_text g progress next text = after_lines g progress next (ended_lines text) (unended_part text)

-- what a report says
abbrev pub report_reading : Parts → List ℕ → ReportReading
report_reading g report = after_text g Before 1 report
