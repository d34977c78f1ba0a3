use Rattle.std.proofs.Common.{◌∙◌, ap}
use Rattle.grid_model.specs.Names.{mentioned}
use Rattle.grid_model.proofs.Distinct.{mentioned_next_of}
use Rattle.grid_model.proofs.grid.device_names_of.Goals as goal

pub loop-device-preserved : goal.loop-device-preserved
loop-device-preserved c =
    c.in_ok-mention.ensures.names
    ∙ ap (λ names. mentioned names c.device-item.result.name) c.loop-device.invariant
    ∙ mentioned_next_of (λ d. d.name) c.args.devices.now c.loop-device.device-index c.device-item.result c.requires c.loop-device-test.true c.device-item.is
