-- By the sort of the line.
use Rattle.std.proofs.Common.{refl}
use Rattle.event_reader.proofs.Readings.{skipped_read, too_long_read, bare_read}
use Rattle.event_reader.proofs.block.event_of_line.Goals as goal

pub returns-in-Skipped : goal.returns-in-Skipped
returns-in-Skipped c = λ line h. skipped_read c.args.grid.now line (rw c.in-Skipped.is at h.of_sort)

pub returns-in-TooLong : goal.returns-in-TooLong
returns-in-TooLong c = λ line h. too_long_read c.args.grid.now line (rw c.in-TooLong.is at h.of_sort)

pub returns-in-NoFields : goal.returns-in-NoFields
returns-in-NoFields c = λ line h. bare_read c.args.grid.now line (rw c.in-NoFields.is at h.of_sort)

pub returns-in-Row : goal.returns-in-Row
returns-in-Row c = λ line h. c.event_of_row.ensures line (rw c.in-Row.is at h.of_sort) (h.between c.in-Row.is)
