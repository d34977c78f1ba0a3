use Rattle.outage_engine.specs.Recording.{stands_among, IsTold}
use Rattle.outage_engine.proofs.recording.record_flipped.Given as goal

abbrev pub invariant-loop-n : goal.invariant-loop-n
invariant-loop-n l = IsTold l.grid l.judged l.at (stands_among l.grid l.n-items l.n-index) l.fn.ledger l.ledger
