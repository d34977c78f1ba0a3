use Rattle.std.proofs.Common.{◌≡◌, ℕ, ◌<◌, ◌≤◌, ◌+◌, length}
use Rattle.outage_rules.specs.Sum.{total}
use Rattle.radial_forest.specs.Traversed.{node_at}
use Rattle.radial_forest.specs.Spreading.{switched}
use Rattle.subtree_costs.specs.Trees.{depth_in}
use Rattle.subtree_costs.specs.Walks.{IsOnWalk}
use Rattle.diagnosis.specs.Judging.{Aim, judging, IsUnderWay, IsRight, AlwaysLeads}
use Rattle.diagnosis.proofs.settling.judge_walks.Given as goal

abbrev pub invariant-loop-p : goal.invariant-loop-p
invariant-loop-p g l = record {
  walk : length l.walk ≡ length l.grid.nodes;
  leads : AlwaysLeads l.grid l.costs (judging l.fn.flags.opened l.fn.flags.dark l.fn.turned 0) (judging l.flags.opened l.flags.dark l.turned l.listed);
  right : (w : Aim) → IsUnderWay l.grid l.costs w (judging l.fn.flags.opened l.fn.flags.dark l.fn.turned 0)
      → (i : ℕ) → i < l.p-index → (n : ℕ) → IsOnWalk (switched l.grid l.costs.forest.closed) l.costs.forest (node_at l.places i) n
      → IsRight l.costs w (judging l.flags.opened l.flags.dark l.turned l.listed) n;
  opened_begun : l.flags.opened.begun ≡ l.fn.flags.opened.begun;
  dark_begun : l.flags.dark.begun ≡ l.fn.flags.dark.begun;
  steps : l.steps ≤ l.fn.steps + total l.p-index (λ i. depth_in (switched l.grid l.costs.forest.closed) l.costs.forest (node_at l.places i) + 1);
}
