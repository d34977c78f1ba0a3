use Rattle.std.proofs.Common.{◌≤◌, rules, length}
use Rattle.grid_model.specs.Padding.{padded_new}
use Rattle.grid_model.proofs.name.Name.read.Goals as goal

pub invariant_of-result : goal.invariant_of-result
invariant_of-result c =
    let small : length c.args.text.now ≤ 32 = search rules in
    rw c.copy_from_slice.ensures.after (padded_new c.args.text.now small)
