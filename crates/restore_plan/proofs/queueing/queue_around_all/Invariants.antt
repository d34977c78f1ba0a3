use Rattle.std.proofs.Common.{◌≡◌, ◌<◌, ℕ, true, length}
use Rattle.grid_model.specs.Places.{touches}
use Rattle.radial_forest.specs.Traversed.{node_at}
use Rattle.restore_plan.specs.Barred.{flagged}
use Rattle.restore_plan.specs.Queueing.{IsRight}
use Rattle.restore_plan.proofs.queueing.queue_around_all.Given as goal

abbrev pub invariant-loop-n : goal.invariant-loop-n
invariant-loop-n l = record {
  each : length l.queue ≡ length l.grid.devices;
  kept : (d : ℕ) → IsRight l.grid (flagged l.barred) l.forest.closed l.fn.queue d → IsRight l.grid (flagged l.barred) l.forest.closed l.queue d;
  right : (k d : ℕ) → k < l.n-index → d < length l.grid.devices → touches l.grid d (node_at l.nodes k) ≡ true → IsRight l.grid (flagged l.barred) l.forest.closed l.queue d;
}
