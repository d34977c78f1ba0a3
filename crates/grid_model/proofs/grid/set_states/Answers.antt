use Rattle.std.proofs.Common.{ap, sym, ◌∙◌, ◌<◌, false, get_or, length, set, arith}
use Rattle.std.proofs.lemmas.List.{take_all}
use Rattle.grid_model.specs.Started.{started}
use Rattle.grid_model.proofs.Started.{starts, started_none, started_more}
use Rattle.grid_model.proofs.grid.set_states.Goals as goal

pub loop-d-init : goal.loop-d-init
loop-d-init c = sym (started_none c.args.devices.now)

pub loop-d-preserved : goal.loop-d-preserved
loop-d-preserved c =
    let here : c.loop-d.d < length c.args.closed.now = omega arith in
    ap (λ ds. set ds c.loop-d.d (starts (get_or c.args.closed.now c.loop-d.d false) (get_or ds c.loop-d.d c.index-devices-d.result))) c.loop-d.invariant
    ∙ started_more c.args.devices.now c.args.closed.now c.loop-d.d c.index-devices-d.result c.loop-d-test.true here

pub returns : goal.returns
returns c = c.loop-d.invariant ∙ ap (started c.args.devices.now) (take_all c.loop-d.d c.args.closed.now (omega arith))
