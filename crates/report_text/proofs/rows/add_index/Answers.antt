-- The words of the row.
use Rattle.std.proofs.Common.{◌++◌, ◌∙◌, ap}
use Rattle.std.proofs.lemmas.Result.{on_ok_weaker}
use Rattle.report_text.proofs.IndexRows.{index_of}
use Rattle.report_text.proofs.rows.add_index.Goals as goal

pub returns : goal.returns
returns c =
    let words = index_of c.args.name.now _ c.args.value (c.as_slice.ensures.value ∙ c.in_ok-value.ensures) in
    on_ok_weaker c.add_row.result (λ adds. adds ∙ ap (λ t. c.args.text.now.items ++ t) words) c.add_row.ensures
