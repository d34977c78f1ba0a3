use Rattle.field_state.proofs.Marking.{restored_done}
use Rattle.field_state.specs.Repairs.{AreReaches}
use Rattle.std.proofs.Common.{sym, subst, arith}
use Rattle.field_state.proofs.state.State.restore.Goals as goal

pub returns-clause-done : goal.returns-clause-done
returns-clause-done g c =
    restored_done c.args.grid.now c.args.now c.args.d c.args.self.now c.bring_back.new.self c.mark_fine.new.self c.requires.ready c.requires.device
    c.bring_back.ensures.kept c.mark_fine.ensures.marked

pub returns-clause-steps : goal.returns-clause-steps
returns-clause-steps g c reach at =
    let first = c.bring_back.ensures.steps reach at in
    let second = c.mark_fine.ensures.steps reach (subst (λ f. AreReaches c.args.grid.now f.closed reach) (sym c.bring_back.ensures.kept.forest) at) in
    omega arith
