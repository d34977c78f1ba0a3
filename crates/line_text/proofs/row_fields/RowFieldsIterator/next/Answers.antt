-- The field at the place behind those that were taken.
use Rattle.std.proofs.Common.{rules, arith, sym, ◌∙◌}
use Rattle.csv.specs.Records.{fields_of}
use Rattle.line_text.proofs.RowParts.{field_at-some, field_at-none}
use Rattle.line_text.proofs.row_fields.RowFieldsIterator.next.Goals as goal

pub returns-in_err-field-clause-steps : goal.returns-in_err-field-clause-steps
returns-in_err-field-clause-steps c =
    let ended = sym c.self.view_is ∙ field_at-none (fields_of c.self.inside.row.now) c.self.inside.taken c.in_err-field.ensures.value in
    rw c.from_residual.ensures (ended, ended)

pub returns-clause-steps : goal.returns-clause-steps
returns-clause-steps c =
    sym c.self.view_is ∙ field_at-some (fields_of c.self.inside.row.now) c.self.inside.taken c.in_ok-field.field.now c.in_ok-field.ensures.value

pub returns-clause-goes : goal.returns-clause-goes
returns-clause-goes c = rw (returns-clause-steps c) (search (rules, arith))
