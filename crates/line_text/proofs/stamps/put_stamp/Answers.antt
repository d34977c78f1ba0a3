-- The day's date and the time of day are read as that second.
use Rattle.std.proofs.Common.{◌/◌, ◌%◌, ◌∙◌, ap, unsigned_abs, arith}
use Rattle.event_rules.specs.Stamps.{stamp_of}
use Rattle.line_text.proofs.StampDays.{date_from_1970, date_number}
use Rattle.line_text.proofs.StampTexts.{text_is_read}
use Rattle.line_text.proofs.stamps.put_stamp.Goals as goal

pub returns : goal.returns
returns c =
    let at = c.args.at.0 in
    let date = c.date_of.result in
    ap stamp_of c.text_of.ensures
    ∙ text_is_read (unsigned_abs date.year) date.month date.day (at / 86400) (at % 86400) at (date_from_1970 date c.date_of.ensures.year)
    (date_number date (at / 86400) c.date_of.ensures.year c.date_of.ensures.number) (omega arith) (omega arith)
