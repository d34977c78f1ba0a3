use Rattle.std.proofs.Common.{slice_index}
use Rattle.grid_model.specs.Network.{problem_with}
use Rattle.diagnosis.proofs.Rows.{AreAdded}
use Rattle.diagnosis.proofs.sums.add_up.Given as goal

abbrev pub invariant-loop-k : goal.invariant-loop-k
invariant-loop-k l = AreAdded (problem_with l.grid (slice_index l.initial.rows)) l.traversal l.k (slice_index l.rows) (λ n. 0)
