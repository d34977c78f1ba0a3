use Rattle.std.proofs.Common.{◌≡◌, length}
use Rattle.radial_forest.specs.Traversed.{node_at}
use Rattle.diagnosis.proofs.Watching.{AreForgotten}
use Rattle.diagnosis.proofs.node_flags.forget.Given as goal

abbrev pub invariant-loop-n : goal.invariant-loop-n
invariant-loop-n l = record {
  each : length l.begun ≡ length l.now;
  forgotten : AreForgotten l.begun l.now l.n-index (length l.named) (node_at l.named);
}
