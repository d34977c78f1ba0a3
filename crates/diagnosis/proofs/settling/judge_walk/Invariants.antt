use Rattle.std.proofs.Common.{◌≡◌, ℕ, ◌<◌, ◌≤◌, ◌+◌, length}
use Rattle.radial_forest.specs.Traversed.{node_at}
use Rattle.diagnosis.specs.Judging.{Aim, judging, IsUnderWay, IsRight, AlwaysLeads}
use Rattle.diagnosis.proofs.settling.judge_walk.Given as goal

abbrev pub invariant-loop-k : goal.invariant-loop-k
invariant-loop-k g l = record {
  leads : AlwaysLeads l.grid l.costs (judging l.fn.flags.opened l.fn.flags.dark l.fn.turned l.fn.count) (judging l.flags.opened l.flags.dark l.turned l.listed);
  right : (w : Aim) → IsUnderWay l.grid l.costs w (judging l.fn.flags.opened l.fn.flags.dark l.fn.turned l.fn.count)
      → (j : ℕ) → l.k ≤ j → j < length l.walk → IsRight l.costs w (judging l.flags.opened l.flags.dark l.turned l.listed) (node_at l.walk j);
  opened_begun : l.flags.opened.begun ≡ l.fn.flags.opened.begun;
  dark_begun : l.flags.dark.begun ≡ l.fn.flags.dark.begun;
  steps : l.steps + l.k ≤ l.fn.steps + length l.walk;
}
