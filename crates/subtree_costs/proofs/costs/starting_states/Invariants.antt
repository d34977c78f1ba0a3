use Rattle.std.proofs.Common.{◌≡◌, ◌<◌, ℕ, false, length, get_or}
use Rattle.grid_model.specs.Places.{device_at}
use Rattle.subtree_costs.proofs.costs.starting_states.Given as goal

abbrev pub invariant-loop-d : goal.invariant-loop-d
invariant-loop-d l = record {
  count : length l.closed.items ≡ length l.grid.devices;
  states : (k : ℕ) → k < l.d → get_or l.closed.items k false ≡ (device_at l.grid k).starts_closed;
}
