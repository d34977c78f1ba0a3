use Rattle.std.proofs.Common.{◌≡◌, ◌≤◌, ◌+◌}
use Rattle.diagnosis.specs.Judging.{Aim, judging, IsUnderWay, AlwaysLeads}
use Rattle.diagnosis.proofs.Below.{AreRightBelow}
use Rattle.diagnosis.proofs.settling.judge_below.Given as goal

abbrev pub invariant-loop-d : goal.invariant-loop-d
invariant-loop-d g l = record {
  leads : AlwaysLeads l.grid l.costs (judging l.fn.flags.opened l.fn.flags.dark l.fn.turned l.fn.count) (judging l.flags.opened l.flags.dark l.turned l.listed);
  right : (w : Aim) → IsUnderWay l.grid l.costs w (judging l.fn.flags.opened l.fn.flags.dark l.fn.turned l.fn.count)
      → AreRightBelow l.grid l.costs w (judging l.flags.opened l.flags.dark l.turned l.listed) l.d-items l.d-index l.n.0;
  opened_begun : l.flags.opened.begun ≡ l.fn.flags.opened.begun;
  dark_begun : l.flags.dark.begun ≡ l.fn.flags.dark.begun;
  steps : l.steps ≤ l.fn.steps + l.d-index;
}
