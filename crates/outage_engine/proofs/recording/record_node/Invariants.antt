use Rattle.field_state.proofs.Standing.{is_met}
use Rattle.outage_engine.specs.Recording.{IsTold}
use Rattle.outage_engine.proofs.recording.record_node.Given as goal

abbrev pub invariant-loop-m : goal.invariant-loop-m
invariant-loop-m l = IsTold l.grid l.judged l.at (is_met l.m-items l.m-index) l.fn.ledger l.ledger
