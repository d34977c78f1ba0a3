use Rattle.std.proofs.Common.{◌≡◌, ◌<◌, ℕ, length}
use Rattle.radial_forest.proofs.Incident.{number_at}
use Rattle.restore_plan.specs.Barred.{flagged}
use Rattle.restore_plan.specs.Queueing.{IsRight}
use Rattle.restore_plan.proofs.queueing.queue_around.Given as goal

abbrev pub invariant-loop-d : goal.invariant-loop-d
invariant-loop-d l = record {
  each : length l.queue ≡ length l.grid.devices;
  kept : (d : ℕ) → IsRight l.grid (flagged l.barred) l.forest.closed l.fn.queue d → IsRight l.grid (flagged l.barred) l.forest.closed l.queue d;
  right : (k : ℕ) → k < l.d-index → IsRight l.grid (flagged l.barred) l.forest.closed l.queue (number_at l.d-items k);
}
