-- The reading of a row as a result.
use Rattle.std.specs.Prelude.{Result, Ok, Err}
use Rattle.grid_reader.specs.declared.row.Row.{Row}
use Rattle.grid_reader.specs.declared.fault.GridRule.{GridRule}
use Rattle.grid_reader.specs.Rows.{RowReading, IsRow, Breaks}

abbrev pub as_result : RowReading → Result Row GridRule
as_result (IsRow row) = Ok row
as_result (Breaks rule) = Err rule
