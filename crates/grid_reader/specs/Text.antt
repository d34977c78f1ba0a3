-- The network that a text says, or its first line that breaks a rule.
use Rattle.std.specs.Prelude.{ℕ, ◌+◌, List, [], ◌∷◌, ◌++◌, slice_index, Option, Some, None, if◌then◌else◌}
use Rattle.outage_rules.specs.Loops.{first_loop}
use Rattle.grid_model.specs.Parts.{Parts}
use Rattle.grid_model.specs.Network.{network_of}
use Rattle.event_rules.specs.Lines.{lines, is_skipped}
use Rattle.grid_reader.specs.declared.row.Row.{Row}
use Rattle.grid_reader.specs.declared.row.Row.TheVariants as row
use Rattle.grid_reader.specs.declared.fault.GridRule.{GridRule}
use Rattle.grid_reader.specs.declared.fault.GridRule.TheVariants.{Loop}
use Rattle.grid_reader.specs.Rows.{RowReading, IsRow, Breaks, row_of}
use Rattle.grid_reader.specs.Network.{parts_of, broken_after}

-- the rows so far, the line of each device and the number of the next line; or the first line that breaks a rule
pub data Reading : Type 0 where
  Rows : (rows : List Row) (device_lines : List ℕ) (next : ℕ) → Reading
  Stopped : (line : ℕ) (rule : GridRule) → Reading

-- the lines of the devices after one more row
abbrev pub device_lines_with : List ℕ → ℕ → Row → List ℕ
device_lines_with device_lines line (row.Source node) = device_lines
device_lines_with device_lines line (row.Device d) = device_lines ++ line ∷ []
device_lines_with device_lines line (row.Meter m) = device_lines
device_lines_with device_lines line (row.Setting s) = device_lines

abbrev pub unless_broken : List Row → List ℕ → ℕ → Row → Option GridRule → Reading
unless_broken earlier device_lines line row (Some rule) = Stopped line rule
unless_broken earlier device_lines line row None = Rows (row ∷ earlier) (device_lines_with device_lines line row) (line + 1)

abbrev pub with_row : List Row → List ℕ → ℕ → RowReading → Reading
with_row earlier device_lines line (Breaks rule) = Stopped line rule
with_row earlier device_lines line (IsRow row) = unless_broken earlier device_lines line row (broken_after earlier row)

abbrev pub with_line : Reading → List ℕ → Reading
with_line (Rows earlier device_lines next) line =
    if is_skipped line then Rows earlier device_lines (next + 1) else with_row earlier device_lines next (row_of line)
with_line (Stopped at rule) line = Stopped at rule

unfoldable pub with_lines : Reading → List (List ℕ) → Reading
with_lines reading [] = reading
with_lines reading (line ∷ rest) = with_lines (with_line reading line) rest

-- the network of a text, or its first line that breaks a rule and the first rule that it breaks
pub data GridReading : Type 0 where
  IsGrid : (parts : Parts) → GridReading
  IsRefusedAt : (line : ℕ) (rule : GridRule) → GridReading

-- where no line breaks a rule by itself or after others, the first closed device that closes a loop is refused
abbrev pub unless_looped : Parts → List ℕ → Option ℕ → GridReading
unless_looped parts device_lines (Some d) = IsRefusedAt (slice_index device_lines d) Loop
unless_looped parts device_lines None = IsGrid parts

abbrev pub grid_of_reading : Reading → GridReading
grid_of_reading (Rows rows device_lines next) = unless_looped (parts_of rows) device_lines (first_loop (network_of (parts_of rows)))
grid_of_reading (Stopped line rule) = IsRefusedAt line rule

unfoldable pub grid_text : List ℕ → GridReading
grid_text text = grid_of_reading (with_lines (Rows [] [] 1) (lines text))
