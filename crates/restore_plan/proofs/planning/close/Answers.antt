use Rattle.std.proofs.Common.{◌<◌, true, false, get_or, ap, ◌∙◌, sym, subst}
use Rattle.std.specs.Prelude.{not}
use Rattle.std.specs.List.{count_by}
use Rattle.std.proofs.lemmas.List.{get_or-set_same}
use Rattle.restore_plan.specs.Barred.{flagged}
use Rattle.restore_plan.proofs.Legal.{forest_state}
use Rattle.restore_plan.proofs.Closing.{next_closing}
use Rattle.restore_plan.proofs.Queue.{queued_after}
use Rattle.restore_plan.proofs.planning.close.Goals as goal

pub make_move-requires-clause-device : goal.make_move-requires-clause-device
make_move-requires-clause-device c =
    let f = c.args.forest.now in
    (next_closing c.args.grid.now (flagged c.args.barred.now) f.closed c.args.d (forest_state c.args.grid.now f.closed f c.requires.of_grid) (sym c.requires.first)).within

pub make_move-requires-clause-passes : goal.make_move-requires-clause-passes
make_move-requires-clause-passes c =
    let f = c.args.forest.now in
    (next_closing c.args.grid.now (flagged c.args.barred.now) f.closed c.args.d (forest_state c.args.grid.now f.closed f c.requires.of_grid) (sym c.requires.first)).passes

pub walk_below-count-requires-clause-device : goal.walk_below-count-requires-clause-device
walk_below-count-requires-clause-device c =
    let f = c.args.forest.now in
    (next_closing c.args.grid.now (flagged c.args.barred.now) f.closed c.args.d (forest_state c.args.grid.now f.closed f c.requires.of_grid) (sym c.requires.first)).within

pub walk_below-count-requires-clause-closed : goal.walk_below-count-requires-clause-closed
walk_below-count-requires-clause-closed c =
    let f = c.args.forest.now in
    let next = next_closing c.args.grid.now (flagged c.args.barred.now) f.closed c.args.d (forest_state c.args.grid.now f.closed f c.requires.of_grid) (sym c.requires.first) in
    ap (λ s. get_or s c.args.d.0 false) c.in_ok-make_move.ensures.states
    ∙ get_or-set_same f.closed c.args.d.0 true false (subst (λ n. c.args.d.0 < n) (sym c.requires.of_grid.states_each) next.within)

pub returns-clause-queue : goal.returns-clause-queue
returns-clause-queue c =
    let g = c.args.grid.now in
    let b = flagged c.args.barred.now in
    let f = c.args.forest.now in
    let state = forest_state g f.closed f c.requires.of_grid in
    let next = next_closing g b f.closed c.args.d state (sym c.requires.first) in
    queued_after g b f.closed c.args.d.0 state next.within next.one_end c.make_move.new.forest.closed c.walk_below-count.new.into c.walk_below-count.result c.args.queue.now c.queue_around_all.new.queue
    c.in_ok-make_move.ensures.states c.requires.queue c.walk_below-count.ensures.count c.walk_below-count.ensures.below c.queue_around_all.ensures.each c.queue_around_all.ensures.kept c.queue_around_all.ensures.around

pub returns-clause-fewer : goal.returns-clause-fewer
returns-clause-fewer c =
    let f = c.args.forest.now in
    subst (λ x. count_by not x < count_by not f.closed) (sym c.in_ok-make_move.ensures.states)
    (next_closing c.args.grid.now (flagged c.args.barred.now) f.closed c.args.d (forest_state c.args.grid.now f.closed f c.requires.of_grid) (sym c.requires.first)).fewer
