-- The event of the fields, or the rule that they break.
use Rattle.std.proofs.Common.{sym, ap, ◌∙◌}
use Rattle.std.proofs.lemmas.Result.{err_from_is_err_and}
use Rattle.event_rules.specs.EventLines.{event_of_fields}
use Rattle.event_reader.proofs.Readings.{row_refused, row_event}
use Rattle.event_reader.proofs.read.event_of_row.Goals as goal

pub returns-in_err-event_of_fields : goal.returns-in_err-event_of_fields
returns-in_err-event_of_fields c = λ line h e.
    let p = err_from_is_err_and c.from_residual.result c.from_residual.ensures.1 in
    row_refused c.args.grid.now line c.in_err-event_of_fields.field-0.0 p.0 c.from_residual.result h
    (ap (event_of_fields c.args.grid.now) (sym e) ∙ sym c.in_err-event_of_fields.ensures.event) p.2 p.1

pub returns : goal.returns
returns c = λ line h e.
    row_event c.args.grid.now line c.in_ok-event_of_fields.field-0 h
    (ap (event_of_fields c.args.grid.now) (sym e) ∙ sym c.in_ok-event_of_fields.ensures.event) c.in_ok-event_of_fields.ensures.bound
