use Rattle.std.proofs.Common.{◌≡◌, ◌≤◌, ◌+◌, ℕ, List}
use Rattle.grid_model.specs.declared.history.Event.{Event}
use Rattle.field_state.specs.FieldKept.{IsFieldKept}
use Rattle.field_state.specs.Placed.{NotesChanges}
use Rattle.field_state.specs.Weighed.{dues}
use Rattle.field_state.specs.Repairs.{AreReaches, AreCosts, spent, dues_cost}
use Rattle.field_state.proofs.state.State.advance.Given as goal

abbrev pub invariant-loop-t : goal.invariant-loop-t
invariant-loop-t g l = record {
  some : (h : List Event) × IsFieldKept l.grid h l.t.0 l.self;
  kept : (h : List Event) → IsFieldKept l.grid h l.fn.self.now l.fn.self → IsFieldKept l.grid h l.t.0 l.self;
  now : l.self.now ≡ l.fn.self.now;
  applied : l.self.applied ≡ l.fn.self.applied;
  forest : l.self.forest ≡ l.fn.self.forest;
  notes : NotesChanges l.grid l.fn.self.costs l.self.costs l.fn.self.places l.self.places;
  costs : (reach cost : ℕ → ℕ) → AreCosts l.grid l.t.0 reach cost l.fn.self → AreCosts l.grid l.t.0 reach cost l.self;
  steps : (reach cost : ℕ → ℕ) → AreReaches l.grid l.fn.self.forest.closed reach → AreCosts l.grid l.t.0 reach cost l.fn.self
      → spent l.grid l.self l.steps + dues_cost l.t.0 cost l.self.due ≤ spent l.grid l.fn.self l.fn.steps + dues_cost l.t.0 cost l.fn.self.due;
}

abbrev pub decreases-loop-t : goal.decreases-loop-t
decreases-loop-t g l = dues l.t.0 l.self.due
