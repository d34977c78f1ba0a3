use Rattle.std.proofs.Common.{◌≡◌, ◌<◌, ℕ, length}
use Rattle.restore_plan.specs.Barred.{flagged}
use Rattle.restore_plan.specs.Queueing.{IsRight}
use Rattle.restore_plan.proofs.queueing.queue_all.Given as goal

abbrev pub invariant-loop-d : goal.invariant-loop-d
invariant-loop-d l = record {
  each : length l.queue ≡ length l.grid.devices;
  right : (d : ℕ) → d < l.d → IsRight l.grid (flagged l.barred) l.forest.closed l.queue d;
}
