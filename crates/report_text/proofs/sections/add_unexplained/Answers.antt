-- One meter more.
use Rattle.report_text.proofs.Told.{meters_more}
use Rattle.report_text.proofs.sections.add_unexplained.Goals as goal

pub loop-m-preserved : goal.loop-m-preserved
loop-m-preserved c = λ h after.
    meters_more c.args.engine.now.grid h c.loop-m.m _ _ _ (c.loop-m.invariant h after) (c.in_ok-add_meter_row.ensures h after)
