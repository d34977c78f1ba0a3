-- The record of a line that has fields.
use Rattle.std.proofs.Common.{◌≡◌, rules, false, ap, sym, ◌∙◌}
use Rattle.std.specs.Prelude.{option_map}
use Rattle.csv.specs.Records.{fields_of}
use Rattle.event_rules.specs.Fields.{has_no_fields}
use Rattle.line_text.proofs.RecordParts.{fields_from}
use Rattle.line_text.proofs.rows.fields.Goals as goal

pub returns-in-Some-Some-clause-value : goal.returns-in-Some-Some-clause-value
returns-in-Some-Some-clause-value c =
    let h : has_no_fields c.args.line.now ≡ false = search rules in
    fields_from c.args.line.now (fields_of c.in-Some-Some.row) (ap (option_map fields_of) (sym c.in-Some-Some.field-0-is) ∙ c.in-Some-Some.ensures) h
