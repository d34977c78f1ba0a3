use Rattle.std.proofs.Common.{◌≤◌, ◌+◌, ℕ}
use Rattle.evidence.specs.Kept.{kept_of}
use Rattle.field_state.specs.Acted.{IsKeptBy, restored_if}
use Rattle.field_state.specs.Repairs.{AreReaches, spent, restores_cost}
use Rattle.field_state.proofs.Standing.{is_met}
use Rattle.field_state.proofs.state.State.restore_node.Given as goal

abbrev pub invariant-loop-m : goal.invariant-loop-m
invariant-loop-m g l = record {
  kept : IsKeptBy l.grid l.now.0 (λ k. restored_if (is_met l.m-items l.m-index k) l.now.0 (kept_of l.initial.self.evidence k)) l.initial.self l.self;
  steps : (reach : ℕ → ℕ) → AreReaches l.grid l.initial.self.forest.closed reach
      → spent l.grid l.self l.steps ≤ spent l.grid l.initial.self l.initial.steps + restores_cost l.grid l.now.0 reach l.initial.self.evidence (is_met l.m-items l.m-index);
}
