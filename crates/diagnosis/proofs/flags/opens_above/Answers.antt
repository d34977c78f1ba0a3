use Rattle.std.proofs.Common.{arith}
use Rattle.diagnosis.proofs.flags.opens_above.Goals as goal

pub overflow_add-weight : goal.overflow_add-weight
overflow_add-weight g c =
    let small = (c.row-row.ensures.small c.args.grid.now c.requires.costed).1 in
    let weight = (c.requires.costed.posed.sound.devices c.args.d.0 c.requires.device).most_weight in
    let is = c.device.ensures in
    omega arith
