use Rattle.std.proofs.Common.{arith, refl, sym, subst, None, ◌+◌}
use Rattle.grid_model.specs.Places.{setting_of}
use Rattle.grid_model.specs.declared.parts.Setting.TheVariants.{OkHold}
use Rattle.grid_model.specs.declared.history.Mark.TheVariants as mark
use Rattle.grid_model.specs.declared.history.What.TheVariants.{Confirm}
use Rattle.grid_model.specs.declared.history.Confirmed.TheVariants as confirmed
use Rattle.history_rules.specs.Slots.{end_after}
use Rattle.field_state.specs.Acted.{IsDone}
use Rattle.field_state.proofs.Marking.{confirmed_done, end_is_this}
use Rattle.std.specs.Prelude.{not}
use Rattle.grid_model.specs.Problem.{mark_at}
use Rattle.field_state.proofs.Spending.{repair_most}
use Rattle.field_state.specs.Repairs.{same_mark, device_length}
use Rattle.field_state.proofs.state.State.confirm.Goals as goal

pub returns-in-Opened-clause-done : goal.returns-in-Opened-clause-done
returns-in-Opened-clause-done g c =
    subst (λ said. IsDone c.args.grid.now (record { time = c.args.now; what = Confirm c.args.d said }) c.args.self.now c.take_mark.new.self) (sym c.in-Opened.is)
    (confirmed_done c.args.grid.now c.args.now c.args.d confirmed.Opened mark.Opened None c.args.self.now c.take_mark.new.self c.requires.ready c.requires.device
    refl (end_is_this c.args.d.0 None) c.take_mark.ensures.marked)

pub returns-in-Fine-clause-done : goal.returns-in-Fine-clause-done
returns-in-Fine-clause-done g c =
    subst (λ said. IsDone c.args.grid.now (record { time = c.args.now; what = Confirm c.args.d said }) c.args.self.now c.mark_fine.new.self) (sym c.in-Fine.is)
    (confirmed_done c.args.grid.now c.args.now c.args.d confirmed.Fine _ _ c.args.self.now c.mark_fine.new.self c.requires.ready c.requires.device
    refl (end_is_this c.args.d.0 (end_after c.args.now.0 (c.args.now.0 + setting_of c.args.grid.now OkHold))) c.mark_fine.ensures.marked)

pub returns-in-Cleared-clause-done : goal.returns-in-Cleared-clause-done
returns-in-Cleared-clause-done g c =
    subst (λ said. IsDone c.args.grid.now (record { time = c.args.now; what = Confirm c.args.d said }) c.args.self.now c.take_mark-in-Cleared.new.self) (sym c.in-Cleared.is)
    (confirmed_done c.args.grid.now c.args.now c.args.d confirmed.Cleared mark.Nothing None c.args.self.now c.take_mark-in-Cleared.new.self c.requires.ready c.requires.device
    refl (end_is_this c.args.d.0 None) c.take_mark-in-Cleared.ensures.marked)

pub returns-in-Opened-clause-steps : goal.returns-in-Opened-clause-steps
returns-in-Opened-clause-steps g c reach at =
    let taken = c.take_mark.ensures.steps reach at in
    let most = repair_most (not (same_mark (mark_at c.args.self.now.marks c.args.d.0) mark.Opened)) (device_length c.args.grid.now reach c.args.d.0) in
    omega arith

pub returns-in-Fine-clause-steps : goal.returns-in-Fine-clause-steps
returns-in-Fine-clause-steps g c reach at = c.mark_fine.ensures.steps reach at

pub returns-in-Cleared-clause-steps : goal.returns-in-Cleared-clause-steps
returns-in-Cleared-clause-steps g c reach at =
    let taken = c.take_mark-in-Cleared.ensures.steps reach at in
    let most = repair_most (not (same_mark (mark_at c.args.self.now.marks c.args.d.0) mark.Nothing)) (device_length c.args.grid.now reach c.args.d.0) in
    omega arith
