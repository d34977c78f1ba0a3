-- What the files say.
use Rattle.std.specs.Prelude.{◌≡◌, ◌⊎◌, ◌<◌, ◌≤◌, ℕ, List, [], ◌++◌, length, Some}
use Rattle.grid_model.specs.Parts.{Parts}
use Rattle.event_rules.specs.Lines.{lines}
use Rattle.grid_reader.specs.Text.{grid_text, IsGrid, IsRefusedAt}
use Rattle.grid_reader.specs.declared.fault.GridRule.{GridRule}
use Rattle.history_rules.specs.Run.{counted, before_counted, lines_within}
use Rattle.bound_table.specs.Table.{Table}
use Rattle.bound_table.specs.Report.{report_reading, IsRead, IsRefused}
use Rattle.bound_table.specs.declared.bounds.BoundRule.{BoundRule}
use Rattle.outage_ports.specs.Bytes.{Files}

-- the greatest number of bytes of a network
abbrev pub most_network : ℕ
most_network = 67108864

-- of the events
abbrev pub most_events : ℕ
most_events = 1073741824

-- and of a report
abbrev pub most_report : ℕ
most_report = 268435456

-- the greatest number of event lines that aren't skipped
abbrev pub most_event_lines : ℕ
most_event_lines = 2000000

-- the file has more bytes than it may have
pub record IsTooLong (files : Files) (name : List ℕ) (most : ℕ) : Type 0 where
  pub bytes : List ℕ
  pub are : files name ≡ Some bytes
  pub more : most < length bytes

-- the file has these bytes, and no more than it may have
pub record IsWithin (files : Files) (name : List ℕ) (most : ℕ) (bytes : List ℕ) : Type 0 where
  pub are : files name ≡ Some bytes
  pub fits : length bytes ≤ most

-- the file says this network
pub record SaysNetwork (files : Files) (name : List ℕ) (parts : Parts) : Type 0 where
  pub bytes : List ℕ
  pub file : IsWithin files name most_network bytes
  pub grid : grid_text bytes ≡ IsGrid parts

-- the file says no network, and this is its first line that breaks a rule, and the first rule that it breaks
pub record RefusesNetworkAt (files : Files) (name : List ℕ) (line : ℕ) (rule : GridRule) : Type 0 where
  pub bytes : List ℕ
  pub file : IsWithin files name most_network bytes
  pub refused : grid_text bytes ≡ IsRefusedAt line rule

-- the file has these events, within the limits of bytes and of lines
pub record HasEvents (files : Files) (name : List ℕ) (bytes : List ℕ) : Type 0 where
  pub file : IsWithin files name most_events bytes
  pub few : length (counted (lines bytes)) ≤ most_event_lines

-- one line more than may count ends within the first bytes
pub record HasTooManyLines (files : Files) (name : List ℕ) (bytes : List ℕ) : Type 0 where
  pub are : files name ≡ Some bytes
  pub many : most_event_lines < length (counted (lines_within most_events bytes))

-- the first bytes have no more lines than may count, and there are more bytes
pub record HasTooManyBytes (files : Files) (name : List ℕ) (bytes : List ℕ) : Type 0 where
  pub are : files name ≡ Some bytes
  pub few : length (counted (lines_within most_events bytes)) ≤ most_event_lines
  pub more : most_events < length bytes

-- the lines that a run takes: those within the first bytes, and of them those before the one too many
abbrev pub lines_taken : List ℕ → List (List ℕ)
lines_taken bytes = before_counted most_event_lines (lines_within most_events bytes)

-- the report has these bounds
pub record SaysBounds (files : Files) (name : List ℕ) (parts : Parts) (bounds : Table) : Type 0 where
  pub bytes : List ℕ
  pub file : IsWithin files name most_report bytes
  pub reading : report_reading parts bytes ≡ IsRead bounds

-- the report has no bounds, and this is its first line that is refused, and the rule that it breaks
pub record RefusesReportAt (files : Files) (name : List ℕ) (parts : Parts) (line : ℕ) (rule : BoundRule) : Type 0 where
  pub bytes : List ℕ
  pub file : IsWithin files name most_report bytes
  pub refused : report_reading parts bytes ≡ IsRefused line rule
