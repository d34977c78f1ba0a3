use Rattle.std.proofs.Common.{sym, ◌∙◌}
use Rattle.switching.proofs.Switched.{opened_is_radial, closed_is_radial}
use Rattle.switching.proofs.decide.Goals as goal

pub returns-in-Opened-clause-opens : goal.returns-in-Opened-clause-opens
returns-in-Opened-clause-opens c e =
    let f = c.requires.of_grid in
    opened_is_radial c.args.grid.now c.args.forest.now.closed c.args.d.0 f.states_each c.requires.device f.radial

pub returns-in-Closed-3-clause-closes : goal.returns-in-Closed-3-clause-closes
returns-in-Closed-3-clause-closes c e =
    let f = c.requires.of_grid in
    closed_is_radial c.args.grid.now c.args.forest.now.closed c.args.d.0 f.states_each c.requires.device f.radial f.sound c.loop_is_a_walk.ensures c.radial_stays.ensures
    (sym c.would_loop.ensures ∙ c.if-would_loop.false)
