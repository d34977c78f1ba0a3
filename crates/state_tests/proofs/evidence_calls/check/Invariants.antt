use Rattle.std.proofs.Common.{◌≡◌, ◌≤◌}
use Rattle.evidence.specs.Kept.{kept_of, IsEvidenceOf}
use Rattle.state_tests.proofs.evidence_calls.check.Given as goal

abbrev pub invariant-loop-case : goal.invariant-loop-case
invariant-loop-case g l = record {
  own : IsEvidenceOf l.grid l.evidence;
  meter : l.m.0 ≡ 0;
  later : (kept_of l.evidence 0).at ≤ l.last;
}
