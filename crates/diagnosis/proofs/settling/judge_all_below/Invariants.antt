use Rattle.std.proofs.Common.{◌≡◌, ℕ, ◌<◌, ◌≤◌, ◌+◌, ◌-◌, length, Some}
use Rattle.outage_rules.specs.Sum.{total}
use Rattle.outage_rules.specs.Certificate.{other_end}
use Rattle.grid_model.specs.declared.parts.DeviceId.{DeviceId}
use Rattle.grid_model.specs.Places.{devices_at}
use Rattle.grid_model.specs.Network.{network_of}
use Rattle.radial_forest.specs.Traversed.{parent_in, node_at}
use Rattle.diagnosis.specs.Judging.{Aim, judging, IsUnderWay, IsRight, AlwaysLeads}
use Rattle.diagnosis.proofs.settling.judge_all_below.Given as goal

abbrev pub invariant-loop-place : goal.invariant-loop-place
invariant-loop-place g l = record {
  leads : AlwaysLeads l.grid l.costs (judging l.fn.flags.opened l.fn.flags.dark l.fn.turned l.fn.count) (judging l.flags.opened l.flags.dark l.turned l.listed);
  right : (w : Aim) → IsUnderWay l.grid l.costs w (judging l.fn.flags.opened l.fn.flags.dark l.fn.turned l.fn.count)
      → (j : ℕ) → j < l.place → (m : ℕ) (x : DeviceId) → m < length l.grid.nodes → parent_in l.costs.forest.parents m ≡ Some x → other_end (network_of l.grid) x.0 m ≡ node_at l.turned j
      → IsRight l.costs w (judging l.flags.opened l.flags.dark l.turned l.listed) m;
  ahead : l.place ≤ l.listed;
  few : l.listed ≤ length l.grid.nodes;
  room : length l.turned ≡ length l.grid.nodes + 1;
  opened_begun : l.flags.opened.begun ≡ l.fn.flags.opened.begun;
  dark_begun : l.flags.dark.begun ≡ l.fn.flags.dark.begun;
  steps : l.steps ≤ l.fn.steps + total l.place (λ j. length (devices_at l.grid (node_at l.turned j)));
}

abbrev pub decreases-loop-place : goal.decreases-loop-place
decreases-loop-place g l = length l.turned - l.place
