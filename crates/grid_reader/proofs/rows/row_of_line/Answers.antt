-- The row of the fields, or no row.
use Rattle.std.proofs.Common.{sym, ap, ◌∙◌}
use Rattle.grid_reader.specs.RowResult.{as_result}
use Rattle.grid_reader.proofs.RowSteps.{row_told, no_row_told}
use Rattle.grid_reader.proofs.rows.row_of_line.Goals as goal

pub returns-in-Row : goal.returns-in-Row
returns-in-Row c = λ line h. c.row_of_fields.ensures ∙ ap as_result (sym (row_told line _ (rw c.in-Row.is at h)))

pub returns-in_default : goal.returns-in_default
returns-in_default c = λ line h. no_row_told c.args.sort line _ c.in_default.not-Row c.requires h
