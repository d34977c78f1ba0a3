use Rattle.radial_forest.proofs.Sources.{AreSourcesTo}
use Rattle.radial_forest.proofs.traversal.Traversal.reach_sources.Given as goal

abbrev pub invariant-loop-n : goal.invariant-loop-n
invariant-loop-n l = AreSourcesTo l.grid l.self l.n
