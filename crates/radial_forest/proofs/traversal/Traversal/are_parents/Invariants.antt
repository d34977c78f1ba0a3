use Rattle.radial_forest.specs.Spreading.{switched, AreParents}
use Rattle.radial_forest.proofs.traversal.Traversal.are_parents.Given as goal

abbrev pub invariant-loop-d : goal.invariant-loop-d
invariant-loop-d l = AreParents (switched l.grid l.closed) l.self l.d
