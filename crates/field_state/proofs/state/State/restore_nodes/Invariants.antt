use Rattle.std.specs.Prelude.{◌≤◌, ◌+◌, ℕ, ◌&&◌, false, slice_index_or}
use Rattle.grid_model.specs.Network.{network_in}
use Rattle.grid_model.specs.Places.{node_of}
use Rattle.history_rules.specs.State.{is_fed}
use Rattle.evidence.specs.Kept.{kept_of}
use Rattle.field_state.specs.Acted.{IsKeptBy, restored_if, is_listed}
use Rattle.field_state.specs.Repairs.{AreReaches, spent, restores_cost}
use Rattle.field_state.proofs.state.State.restore_nodes.Given as goal

abbrev pub invariant-loop-n : goal.invariant-loop-n
invariant-loop-n g l = record {
  kept :
      IsKeptBy l.grid l.now.0
      (λ k. restored_if (is_listed l.nodes l.n-index (node_of l.grid k)
      && is_fed (network_in l.grid (λ e. slice_index_or l.initial.self.forest.closed e false)) (node_of l.grid k)) l.now.0 (kept_of l.initial.self.evidence k))
      l.initial.self l.self;
  steps : (reach : ℕ → ℕ) → AreReaches l.grid l.initial.self.forest.closed reach
      → spent l.grid l.self l.steps ≤ spent l.grid l.initial.self l.initial.steps + restores_cost l.grid l.now.0 reach l.initial.self.evidence
      (λ k. is_listed l.nodes l.n-index (node_of l.grid k) && is_fed (network_in l.grid (λ e. slice_index_or l.initial.self.forest.closed e false)) (node_of l.grid k));
}
