use Rattle.std.proofs.Common.{◌≡◌, ◌≤◌, ◌+◌, ◌*◌, length}
use Rattle.subtree_costs.proofs.Worked.{AreWorked}
use Rattle.subtree_costs.proofs.posed.Posed.work_out.Given as goal

abbrev pub invariant-loop-k : goal.invariant-loop-k
invariant-loop-k g l = record {
  each : length l.rows ≡ length l.self.grid.now.nodes;
  worked : AreWorked l.self l.order l.k l.rows l.total;
  steps : l.steps + 3 * l.k ≤ l.fn.steps + 4 * length l.self.grid.now.nodes;
}
