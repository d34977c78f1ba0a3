use Rattle.std.proofs.Common.{◌∙◌, ap}
use Rattle.grid_model.specs.Names.{mentioned}
use Rattle.grid_model.proofs.Distinct.{mentioned_next_of}
use Rattle.grid_model.proofs.grid.meter_names_of.Goals as goal

pub loop-meter-preserved : goal.loop-meter-preserved
loop-meter-preserved c =
    c.in_ok-mention.ensures.names
    ∙ ap (λ names. mentioned names c.meter-item.result.name) c.loop-meter.invariant
    ∙ mentioned_next_of (λ d. d.name) c.args.meters.now c.loop-meter.meter-index c.meter-item.result c.requires c.loop-meter-test.true c.meter-item.is
