-- One row more.
use Rattle.std.proofs.Common.{refl}
use Rattle.history_rules.specs.Report.{line_row}
use Rattle.report_text.proofs.Ranges.{rows_added}
use Rattle.report_text.proofs.sections.add_line_rows.Goals as goal

pub loop-line-preserved : goal.loop-line-preserved
loop-line-preserved c =
    rows_added (line_row c.args.grid.now) c.args.lines.now c.loop-line.line-index _ _ _ _ _ c.loop-line-test.true refl c.loop-line.invariant c.in_ok-add_line.ensures
