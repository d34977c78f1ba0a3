-- What was read of the fields is what the line says.
use Rattle.std.proofs.Common.{◌≡◌, ◌∙◌, false, Err, refl, sym, ap, arith}
use Rattle.std.proofs.lemmas.Bool.{false_from_ne_true}
use Rattle.std.proofs.lemmas.Result.{err_from_is_err_and}
use Rattle.event_rules.specs.Fields.{has_no_fields}
use Rattle.line_text.specs.LineSorts.{IsRow}
use Rattle.event_reader.specs.Refusals.{refusal_by}
use Rattle.event_reader.proofs.Readings.{long_refused, fields_refused, same_refusal}
use Rattle.event_reader.proofs.read.read_event.Goals as goal

pub returns-then-line-gt-MOST_LINE-clause-refused : goal.returns-then-line-gt-MOST_LINE-clause-refused
returns-then-line-gt-MOST_LINE-clause-refused c = λ rule e.
    long_refused c.args.grid.now c.args.line.now rule (sym c.is_skipped_line.ensures ∙ c.if-is_skipped_line.false) c.if-line-gt-MOST_LINE.true (same_refusal _ (refusal_by rule) _ refl e)

pub returns-in_err-row-clause-refused : goal.returns-in_err-row-clause-refused
returns-in_err-row-clause-refused c = λ rule e.
    let p = err_from_is_err_and c.from_residual.result c.from_residual.ensures.1 in
    fields_refused c.args.grid.now c.args.line.now c.in_err-row.field-0.0 rule (sym c.is_skipped_line.ensures ∙ c.if-is_skipped_line.false) (omega arith)
    (λ bad. c.in_err-row.ensures.bad.0 (ap Err bad)) (sym p.2 ∙ same_refusal p.0 (refusal_by rule) c.from_residual.result p.1 e)

pub returns : goal.returns
returns c =
    let bare : has_no_fields c.args.line.now ≡ false = false_from_ne_true _ (λ t. let bad = c.in_ok-row.ensures.bad.1 t in cc) in
    let row : IsRow c.args.line.now = record { not_skipped = sym c.is_skipped_line.ensures ∙ c.if-is_skipped_line.false; short = omega arith; has_fields = bare } in
    let read = c.event_of_row.ensures c.args.line.now row (c.of.ensures ∙ c.in_ok-row.ensures.value) in
    record { skipped = read.skipped; event = read.event; bound = read.bound; refused = read.refused }
