use Rattle.outage_engine.proofs.Depths.{AreDeepBelow}
use Rattle.outage_engine.proofs.bounds.note_depths.Given as goal

abbrev pub invariant-loop-n : goal.invariant-loop-n
invariant-loop-n l = AreDeepBelow l.grid l.costs l.n-index l.depths
