use Rattle.std.proofs.Common.{sym, subst, arith}
use Rattle.grid_model.specs.Sound.{IsSoundParts}
use Rattle.grid_reader.proofs.Starting.{network_with, loop_found, none_found, loop_within, loop_refused, loopless, sound_with}
use Rattle.grid_reader.proofs.start.start.Goals as goal

pub bounds-device_lines-device : goal.bounds-device_lines-device
bounds-device_lines-device c =
    let l = loop_within c.args.parts c.args.closed.now c.in-Some.device.0
    (loop_found c.args.parts c.in_ok-grid.grid c.args.closed.now c.in_ok-device.field-0 c.in-Some.device c.in_ok-grid.ensures c.in_ok-device.ensures c.in-Some.is) in
    omega (arith, c.requires.lines)

pub starting-requires-clause-radial : goal.starting-requires-clause-radial
starting-requires-clause-radial c =
    let grid = c.in_ok-grid.grid in
    let sound = c.network_is_sound.ensures grid (subst IsSoundParts (sym c.in_ok-grid.ensures) c.requires.sound) in
    (c.radial_has_no_loop.ensures (network_with grid c.args.closed.now) (sound_with grid c.args.closed.now sound)).0
    (none_found grid c.args.closed.now c.in_ok-device.field-0 c.in_ok-device.ensures c.in-None.is)

pub returns-in-Some-clause-refused : goal.returns-in-Some-clause-refused
returns-in-Some-clause-refused c = λ line rule e.
    let refused = loop_refused c.args.parts c.args.closed.now c.args.device_lines.now c.in-Some.device.0
    (loop_found c.args.parts c.in_ok-grid.grid c.args.closed.now c.in_ok-device.field-0 c.in-Some.device c.in_ok-grid.ensures c.in_ok-device.ensures c.in-Some.is) in
    cc

pub returns-in-None-clause-grid : goal.returns-in-None-clause-grid
returns-in-None-clause-grid c =
    loopless c.args.parts c.in_ok-grid.grid c.starting.result c.args.closed.now c.args.device_lines.now c.in_ok-grid.ensures
    (none_found c.in_ok-grid.grid c.args.closed.now c.in_ok-device.field-0 c.in_ok-device.ensures c.in-None.is)
    c.starting.ensures
