use Rattle.radial_forest.specs.Spreading.{switched}
use Rattle.radial_forest.proofs.Around.{Along}
use Rattle.radial_forest.proofs.traversal.Traversal.go_around.Given as goal

abbrev pub invariant-loop-d : goal.invariant-loop-d
invariant-loop-d l = Along (switched l.grid l.closed) l.initial.self l.self l.d-items l.n.0 l.depth l.d-index
