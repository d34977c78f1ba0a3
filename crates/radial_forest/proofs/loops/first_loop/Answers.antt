use Rattle.std.proofs.Common.{false, sym, get_or}
use Rattle.radial_forest.specs.Spreading.{switched}
use Rattle.radial_forest.proofs.Around.{sound_in}
use Rattle.radial_forest.proofs.loops.first_loop.Goals as goal

pub returns-then-is_radial : goal.returns-then-is_radial
returns-then-is_radial c =
    let net = switched c.args.grid.now c.args.closed.now in
    let sound = sound_in c.args.grid.now (λ d. get_or c.args.closed.now d false) c.devices.ensures.sound in
    sym ((c.radial_has_no_loop.ensures net sound).1 (c.is_radial.ensures.radial.0 c.if-is_radial.true))
