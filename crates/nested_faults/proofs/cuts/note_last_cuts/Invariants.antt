use Rattle.nested_faults.proofs.Noting.{AreNoted}
use Rattle.nested_faults.proofs.cuts.note_last_cuts.Given as goal

abbrev pub invariant-loop-n : goal.invariant-loop-n
invariant-loop-n l = AreNoted l.grid l.costs l.judged l.n-index l.last
