use Rattle.std.proofs.Common.{ap, ◌∙◌}
use Rattle.restore_plan.specs.Barred.{flagged}
use Rattle.restore_plan.specs.Restoring.{unfed_meters}
use Rattle.restore_plan.proofs.Closing.{all_moves}
use Rattle.restore_plan.proofs.planning.plan_around.Goals as goal

pub returns-clause-moves : goal.returns-clause-moves
returns-clause-moves c =
    (all_moves c.args.grid.now (flagged c.args.barred.now) c.args.closed.now c.in_ok-forest.forest.closed c.isolate.new.forest.closed c.restore.new.forest.closed c.isolate.new.moves.items c.restore.new.moves.items
    c.in_ok-forest.ensures.forest.states c.in_ok-isolate.ensures.states c.in_ok-isolate.ensures.moves c.in_ok-restore.ensures.closings).0

pub returns-clause-unfed : goal.returns-clause-unfed
returns-clause-unfed c =
    c.in_ok-unfed.ensures
    ∙ ap (unfed_meters c.args.grid.now)
    (all_moves c.args.grid.now (flagged c.args.barred.now) c.args.closed.now c.in_ok-forest.forest.closed c.isolate.new.forest.closed c.restore.new.forest.closed c.isolate.new.moves.items c.restore.new.moves.items
    c.in_ok-forest.ensures.forest.states c.in_ok-isolate.ensures.states c.in_ok-isolate.ensures.moves c.in_ok-restore.ensures.closings).1
