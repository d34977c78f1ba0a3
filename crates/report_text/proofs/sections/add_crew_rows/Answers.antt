-- One row more.
use Rattle.std.proofs.Common.{refl, arith}
use Rattle.report_text.proofs.CrewRows.{crew_added, no_crews}
use Rattle.report_text.proofs.sections.add_crew_rows.Goals as goal

pub loop-place-init : goal.loop-place-init
loop-place-init c = (refl, no_crews c.args.grid.now c.args.text.now.items)

pub loop-place-preserved : goal.loop-place-preserved
loop-place-preserved c = (
  omega arith,
  crew_added c.args.grid.now c.args.outages.now c.deref-place-items.result.now c.loop-place.place-index c.loop-place.number _ _ _ _
      c.loop-place-test.true c.loop-place.invariant.0 refl c.loop-place.invariant.1 c.in_ok-add_crew.ensures,
)
