use Rattle.std.proofs.Common.{◌∙◌, ap}
use Rattle.grid_model.specs.Names.{mentioned}
use Rattle.grid_model.proofs.Distinct.{mentioned_next}
use Rattle.grid_model.proofs.names.Names.of.Goals as goal

pub loop-name-preserved : goal.loop-name-preserved
loop-name-preserved c =
    c.in_ok-mention.ensures.names
    ∙ ap (λ made. mentioned made c.name-item.result) c.loop-name.invariant
    ∙ mentioned_next c.args.names.now c.loop-name.name-index c.name-item.result c.requires c.loop-name-test.true c.name-item.is
