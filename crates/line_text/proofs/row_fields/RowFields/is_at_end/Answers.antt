-- No field is left exactly where none is at the place behind those that were taken.
use Rattle.std.proofs.Common.{sym, ◌∙◌}
use Rattle.csv.specs.Records.{fields_of}
use Rattle.line_text.proofs.RowParts.{none-left}
use Rattle.line_text.proofs.row_fields.RowFields.is_at_end.Goals as goal

pub returns : goal.returns
returns c =
    let left = none-left c.is_none.result c.get.result (fields_of c.self.inside.row.now) c.self.inside.taken c.is_none.ensures c.get.ensures.value in
    (λ h. sym c.self.view_is ∙ left.0 h, λ h. left.1 (c.self.view_is ∙ h))
