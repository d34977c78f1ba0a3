use Rattle.std.specs.Prelude.{not}
use Rattle.std.specs.List.{count_by}
use Rattle.radial_forest.specs.Forested.{IsForestOf}
use Rattle.restore_plan.specs.Barred.{flagged}
use Rattle.restore_plan.specs.Queueing.{IsQueued}
use Rattle.restore_plan.specs.RestoringInside.{IsRestoring}
use Rattle.restore_plan.proofs.planning.close_all.Given as goal

abbrev pub invariant-closings : goal.invariant-closings
invariant-closings l = record {
  of_grid : IsForestOf l.grid l.forest.closed l.forest;
  queued : IsQueued l.grid (flagged l.barred) l.forest.closed l.queue;
  restoring : IsRestoring l.grid (flagged l.barred) l.fn.forest.closed l.fn.moves.items l.forest.closed l.moves.items;
}

-- the open devices
abbrev pub decreases-closings : goal.decreases-closings
decreases-closings l = count_by not l.forest.closed
