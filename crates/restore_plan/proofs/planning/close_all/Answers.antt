use Rattle.std.proofs.Common.{sym}
use Rattle.restore_plan.specs.Barred.{flagged}
use Rattle.restore_plan.proofs.Closing.{restoring_start, restoring_more, restoring_end}
use Rattle.restore_plan.proofs.Queue.{first_due, none_due, not_some}
use Rattle.restore_plan.proofs.planning.close_all.Goals as goal

pub closings-init : goal.closings-init
closings-init c = record {
  of_grid = c.requires.of_grid;
  queued = c.requires.queue;
  restoring = restoring_start c.args.grid.now (flagged c.args.barred.now) c.args.forest.now.closed c.args.moves.now.items;
}

pub close-requires-clause-first : goal.close-requires-clause-first
close-requires-clause-first c =
    first_due c.args.grid.now (flagged c.args.barred.now) c.closings.forest.closed c.closings.queue c.closings.invariant.queued c.in-Some.d c.in-Some.ensures.first c.in-Some.ensures.below

pub closings-preserved : goal.closings-preserved
closings-preserved c = record {
  of_grid = c.in_ok-close.ensures.of_grid;
  queued = c.in_ok-close.ensures.queue;
  restoring = restoring_more c.args.grid.now (flagged c.args.barred.now) _ _ _ _ _ _ (record { 0 = c.in-Some.d }) c.closings.invariant.restoring
      (sym (first_due c.args.grid.now (flagged c.args.barred.now) c.closings.forest.closed c.closings.queue c.closings.invariant.queued c.in-Some.d c.in-Some.ensures.first c.in-Some.ensures.below))
      c.in_ok-close.ensures.states c.in_ok-close.ensures.moves;
}

pub returns-clause-closings : goal.returns-clause-closings
returns-clause-closings c =
    restoring_end c.args.grid.now (flagged c.args.barred.now) _ _ _ _ c.closings.invariant.restoring
    (sym (none_due c.args.grid.now (flagged c.args.barred.now) c.closings.forest.closed c.closings.queue c.closings.invariant.queued
    (c.pop_due.ensures.none.0 (not_some c.pop_due.result c.in_default.not-Some))))
