use Rattle.std.proofs.Common.{◌≤◌, ◌+◌, ◌*◌, ℕ, sym, ap, ◌∙◌, subst, arith}
use Rattle.field_state.specs.Acted.{IsDone, is_brought, is_switching}
use Rattle.field_state.specs.Fielded.{Fielded}
use Rattle.grid_model.specs.declared.history.What.{What}
use Rattle.grid_model.specs.Parts.{Parts}
use Rattle.std.proofs.lemmas.Bool.{false≢true}
use Rattle.field_state.specs.Repairs.{spent, named_length, restores_cost}
use Rattle.field_state.proofs.state.State.perform.Goals as goal

-- what an event costs at its time
abbrev event_cost : Parts → ℕ → (ℕ → ℕ) → Fielded → What → ℕ
event_cost grid t reach f w = restores_cost grid t reach f.evidence (λ k. is_brought grid f.forest.closed k w) + 6 * named_length grid reach w

pub returns-in-Confirm-clause-done : goal.returns-in-Confirm-clause-done
returns-in-Confirm-clause-done g c =
    subst (λ w. IsDone c.args.grid.now (record { time = c.args.event.time; what = w }) c.args.self.now c.confirm.new.self) (sym c.in-Confirm.is) c.confirm.ensures.done

pub returns-in-Restore-clause-done : goal.returns-in-Restore-clause-done
returns-in-Restore-clause-done g c =
    subst (λ w. IsDone c.args.grid.now (record { time = c.args.event.time; what = w }) c.args.self.now c.restore.new.self) (sym c.in-Restore.is) c.restore.ensures.done

pub returns-in-Order-clause-done : goal.returns-in-Order-clause-done
returns-in-Order-clause-done g c =
    subst (λ w. IsDone c.args.grid.now (record { time = c.args.event.time; what = w }) c.args.self.now c.order.new.self) (sym c.in-Order.is)
    (c.order.ensures c.args.event.time c.requires.ready)

pub returns-in-Call-clause-steps : goal.returns-in-Call-clause-steps
returns-in-Call-clause-steps g c still reach at =
    let taken = c.call.ensures.steps reach at in
    subst (λ w. spent c.args.grid.now c.call.new.self c.call.new.steps ≤ spent c.args.grid.now c.args.self.now c.args.steps.now + event_cost c.args.grid.now c.args.event.time.0 reach c.args.self.now w) (sym c.in-Call.is) (omega arith)

pub returns-in-Gasp-clause-steps : goal.returns-in-Gasp-clause-steps
returns-in-Gasp-clause-steps g c still reach at =
    let taken = c.signal.ensures.steps reach at in
    subst (λ w. spent c.args.grid.now c.signal.new.self c.signal.new.steps ≤ spent c.args.grid.now c.args.self.now c.args.steps.now + event_cost c.args.grid.now c.args.event.time.0 reach c.args.self.now w) (sym c.in-Gasp.is) (omega arith)

pub returns-in-PingDown-clause-steps : goal.returns-in-PingDown-clause-steps
returns-in-PingDown-clause-steps g c still reach at =
    let taken = c.signal-in-PingDown.ensures.steps reach at in
    subst (λ w. spent c.args.grid.now c.signal-in-PingDown.new.self c.signal-in-PingDown.new.steps ≤ spent c.args.grid.now c.args.self.now c.args.steps.now + event_cost c.args.grid.now c.args.event.time.0 reach c.args.self.now w) (sym c.in-PingDown.is) (omega arith)

pub returns-in-PingUp-clause-steps : goal.returns-in-PingUp-clause-steps
returns-in-PingUp-clause-steps g c still reach at =
    let taken = c.signal-in-PingUp.ensures.steps reach at in
    subst (λ w. spent c.args.grid.now c.signal-in-PingUp.new.self c.signal-in-PingUp.new.steps ≤ spent c.args.grid.now c.args.self.now c.args.steps.now + event_cost c.args.grid.now c.args.event.time.0 reach c.args.self.now w) (sym c.in-PingUp.is) (omega arith)

pub returns-in-Powerup-clause-steps : goal.returns-in-Powerup-clause-steps
returns-in-Powerup-clause-steps g c still reach at =
    let taken = c.signal-in-Powerup.ensures.steps reach at in
    subst (λ w. spent c.args.grid.now c.signal-in-Powerup.new.self c.signal-in-Powerup.new.steps ≤ spent c.args.grid.now c.args.self.now c.args.steps.now + event_cost c.args.grid.now c.args.event.time.0 reach c.args.self.now w) (sym c.in-Powerup.is) (omega arith)

pub returns-in-Confirm-clause-steps : goal.returns-in-Confirm-clause-steps
returns-in-Confirm-clause-steps g c still reach at =
    let taken = c.confirm.ensures.steps reach at in
    subst (λ w. spent c.args.grid.now c.confirm.new.self c.confirm.new.steps ≤ spent c.args.grid.now c.args.self.now c.args.steps.now + event_cost c.args.grid.now c.args.event.time.0 reach c.args.self.now w) (sym c.in-Confirm.is) (omega arith)

pub returns-in-Restore-clause-steps : goal.returns-in-Restore-clause-steps
returns-in-Restore-clause-steps g c still reach at =
    let taken = c.restore.ensures.steps reach at in
    subst (λ w. spent c.args.grid.now c.restore.new.self c.restore.new.steps ≤ spent c.args.grid.now c.args.self.now c.args.steps.now + event_cost c.args.grid.now c.args.event.time.0 reach c.args.self.now w) (sym c.in-Restore.is) (omega arith)

pub returns-in-Order-clause-steps : goal.returns-in-Order-clause-steps
returns-in-Order-clause-steps g c still reach at = absurd (false≢true (sym still ∙ ap is_switching c.in-Order.is))
