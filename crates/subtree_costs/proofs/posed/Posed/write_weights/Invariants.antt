use Rattle.std.proofs.Common.{◌≡◌, ◌<◌, ◌+◌, ℕ, length}
use Rattle.subtree_costs.specs.Shares.{row_at}
use Rattle.subtree_costs.specs.Repairs.{weights_at}
use Rattle.subtree_costs.proofs.posed.Posed.write_weights.Given as goal

abbrev pub invariant-loop-n : goal.invariant-loop-n
invariant-loop-n g l = record {
  each : length l.rows ≡ length l.self.grid.now.nodes;
  rows : (k : ℕ) → k < l.n → row_at l.rows k ≡ weights_at l.self k;
  steps : l.steps ≡ l.fn.steps + l.n;
}
