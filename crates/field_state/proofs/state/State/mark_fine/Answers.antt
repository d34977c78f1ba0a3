use Rattle.std.proofs.Common.{arith}
use Rattle.std.specs.Prelude.{not}
use Rattle.grid_model.specs.Problem.{mark_at}
use Rattle.grid_model.specs.declared.history.Mark.TheVariants.{Nothing, Fine}
use Rattle.field_state.specs.Repairs.{same_mark, device_length}
use Rattle.field_state.proofs.Spending.{repair_most}
use Rattle.field_state.proofs.state.State.mark_fine.Goals as goal

pub returns-then-hold-gt0-clause-steps : goal.returns-then-hold-gt0-clause-steps
returns-then-hold-gt0-clause-steps g c reach at =
    let taken = c.take_mark.ensures.steps reach at in
    let most = repair_most (not (same_mark (mark_at c.args.self.now.marks c.args.d.0) Fine)) (device_length c.args.grid.now reach c.args.d.0) in
    omega arith

pub returns-else-hold-gt0-clause-steps : goal.returns-else-hold-gt0-clause-steps
returns-else-hold-gt0-clause-steps g c reach at =
    let taken = c.take_mark-else-hold-gt0.ensures.steps reach at in
    let most = repair_most (not (same_mark (mark_at c.args.self.now.marks c.args.d.0) Nothing)) (device_length c.args.grid.now reach c.args.d.0) in
    omega arith
