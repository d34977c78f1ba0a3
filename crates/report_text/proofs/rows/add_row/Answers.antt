-- The words of the row.
use Rattle.std.proofs.Common.{◌++◌, ◌∙◌, ap}
use Rattle.report_text.proofs.Pieces.{row_pieces}
use Rattle.report_text.proofs.rows.add_row.Goals as goal

pub returns : goal.returns
returns c =
    row_pieces (λ w. w.now) _ _ _ _ _ _ (c.in_ok-extend_from_slice.ensures.items ∙ ap (λ w. c.args.text.now.items ++ w) c.text_of.ensures) c.in_ok-add_words.ensures c.in_ok-push.ensures.items
