use Rattle.std.proofs.Common.{◌≡◌, ◌≢◌, ◌<◌, ◌+◌, ◌*◌, ℕ, true, length}
use Rattle.outage_rules.specs.Certificate.{is_child}
use Rattle.subtree_costs.specs.Shares.{row_at}
use Rattle.subtree_costs.specs.Trees.{is_top}
use Rattle.subtree_costs.specs.Repairs.{problem_at, table_at, depth_at, share_at, AreDue, IsFitting}
use Rattle.subtree_costs.proofs.posed.Posed.repair.Given as goal

abbrev pub invariant-loop-above : goal.invariant-loop-above
invariant-loop-above g l = record {
  node : l.top.0 < length l.self.grid.now.nodes;
  each : length l.rows ≡ length l.self.grid.now.nodes;
  fitting : IsFitting l.whole;
  due : AreDue (problem_at l.self) (table_at l.self l.rows) (λ m. is_child (problem_at l.self).net (table_at l.self l.rows) m l.top.0) (share_at l.self l.top.0 l.whole.before) (share_at l.self l.top.0 l.whole.after);
  before : l.whole.before ≡ row_at l.fn.rows l.top.0;
  after : l.whole.after ≡ row_at l.rows l.top.0;
  kept : (m : ℕ) → m < length l.self.grid.now.nodes → depth_at l.self m < depth_at l.self l.top.0 → row_at l.rows m ≡ row_at l.fn.rows m;
  tops : (m : ℕ) → m < length l.self.grid.now.nodes → is_top l.self.forest.now m ≡ true → m ≢ l.top.0 → row_at l.rows m ≡ row_at l.fn.rows m;
  steps : l.steps + 2 * depth_at l.self l.top.0 ≡ l.fn.steps + 2 * (depth_at l.self l.fn.n.0 + 1);
}

abbrev pub decreases-loop-above : goal.decreases-loop-above
decreases-loop-above g l = depth_at l.self l.top.0
