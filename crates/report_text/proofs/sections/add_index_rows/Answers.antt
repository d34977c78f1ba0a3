-- The three rows are of the three indices.
use Rattle.std.proofs.lemmas.Result.{on_ok_weaker}
use Rattle.report_text.proofs.CountedLines.{lines_can_be_counted}
use Rattle.report_text.proofs.IndexRows.{indices_added}
use Rattle.report_text.proofs.sections.add_index_rows.Goals as goal

pub totals-indices-requires-clause-lines : goal.totals-indices-requires-clause-lines
totals-indices-requires-clause-lines c =
    lines_can_be_counted c.args.grid.now c.args.now.0 c.args.lines.now c.requires.second c.requires.lines

pub returns : goal.returns
returns c =
    on_ok_weaker c.add_index-3.result
    (λ last. indices_added c.args.grid.now c.args.period c.args.now.0 c.args.lines.now _ _ _ _ _ _ _
    c.totals-indices.ensures.saifi c.totals-indices.ensures.saidi c.totals-indices.ensures.caidi c.in_ok-add_index.ensures c.in_ok-add_index-2.ensures last)
    c.add_index-3.ensures
