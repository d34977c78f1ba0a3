-- One row more.
use Rattle.std.proofs.Common.{refl}
use Rattle.history_rules.specs.Report.{outage_row}
use Rattle.report_text.proofs.Ranges.{rows_added}
use Rattle.report_text.proofs.sections.add_outage_rows.Goals as goal

pub loop-outage-preserved : goal.loop-outage-preserved
loop-outage-preserved c =
    rows_added (outage_row c.args.grid.now) c.args.outages.now c.loop-outage.outage-index _ _ _ _ _ c.loop-outage-test.true refl c.loop-outage.invariant c.in_ok-add_outage.ensures
