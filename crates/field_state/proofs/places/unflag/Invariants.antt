use Rattle.std.proofs.Common.{◌≡◌, ℕ, ◌<◌, ◌≤◌, true, false, length, get_or}
use Rattle.radial_forest.specs.Traversed.{node_at}
use Rattle.field_state.proofs.places.unflag.Given as goal

abbrev pub invariant-loop-n : goal.invariant-loop-n
invariant-loop-n l = record {
  each : length l.flags ≡ length l.fn.flags;
  left : (n : ℕ) → get_or l.flags n false ≡ true → (j : ℕ) × (l.n-index ≤ j) × (j < length l.nodes) × (node_at l.nodes j ≡ n);
}
