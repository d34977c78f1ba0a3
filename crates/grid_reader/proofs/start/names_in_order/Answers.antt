use Rattle.std.proofs.Common.{◌∙◌}
use Rattle.grid_reader.proofs.Mentions.{take-next}
use Rattle.grid_reader.proofs.start.names_in_order.Goals as goal

pub loop-number-preserved : goal.loop-number-preserved
loop-number-preserved c =
    c.in_ok-push.ensures.items
    ∙ take-next c.args.names.now c.loop-number.all.items c.loop-number.number c.name.result c.loop-number.invariant c.name.ensures
