-- A row, field by field.
use Rattle.std.proofs.Common.{[], ◌∷◌, ◌++◌, ap, ◌∙◌}
use Rattle.std.specs.Prelude.{decimal}
use Rattle.line_entries.proofs.Puts.{put_behind, put_stops, put_same, row_fields}
use Rattle.line_entries.proofs.rows.put_row.Goals as goal

pub returns-in_err-put_field : goal.returns-in_err-put_field
returns-in_err-put_field g c =
    let word = c.args.word.now in
    let last = c.args.last.now in
    let digits = decimal c.args.line in
    put_same _ _ _ _ _ _ _ (row_fields word digits last) (put_stops _ _ _ _ (word ++ 44 ∷ []) ((digits ++ 44 ∷ []) ++ (last ++ 10 ∷ [])) _ _ c.from_residual.ensures.0 c.in_err-put_field.ensures)

pub returns-in_err-put_field-2 : goal.returns-in_err-put_field-2
returns-in_err-put_field-2 g c =
    let word = c.args.word.now in
    let last = c.args.last.now in
    let digits = decimal c.args.line in
    put_same _ _ _ _ _ _ _ (row_fields word digits last)
    (put_behind _ _ _ _ _ _ (word ++ 44 ∷ []) ((digits ++ 44 ∷ []) ++ (last ++ 10 ∷ [])) _ c.in_ok-put_field.ensures.whole c.in_ok-put_field.ensures.cause.kept
    (put_same _ _ _ _ _ _ _ (ap (λ x. (x ++ 44 ∷ []) ++ (last ++ 10 ∷ [])) (c.as_bytes.ensures.value ∙ c.format.ensures.text))
    (put_stops _ _ _ _ (c.as_bytes.result.now ++ 44 ∷ []) (last ++ 10 ∷ []) _ _ c.from_residual-in_err-put_field-2.ensures.0 c.in_err-put_field-2.ensures)))

pub returns : goal.returns
returns g c =
    let word = c.args.word.now in
    let last = c.args.last.now in
    let digits = decimal c.args.line in
    let number = put_same _ _ _ _ _ _ (digits ++ 44 ∷ []) (ap (λ x. x ++ 44 ∷ []) (c.as_bytes.ensures.value ∙ c.format.ensures.text)) c.in_ok-put_field-2.ensures in
    put_same _ _ _ _ _ _ _ (row_fields word digits last)
    (put_behind _ _ _ _ _ _ (word ++ 44 ∷ []) ((digits ++ 44 ∷ []) ++ (last ++ 10 ∷ [])) _ c.in_ok-put_field.ensures.whole c.in_ok-put_field.ensures.cause.kept
    (put_behind _ _ _ _ _ _ (digits ++ 44 ∷ []) (last ++ 10 ∷ []) _ number.whole number.cause.kept c.put_last.ensures))
