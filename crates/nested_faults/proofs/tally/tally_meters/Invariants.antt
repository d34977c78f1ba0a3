use Rattle.std.proofs.Common.{◌≡◌, length}
use Rattle.nested_faults.specs.Tallies.{AreTallies}
use Rattle.nested_faults.proofs.tally.tally_meters.Given as goal

abbrev pub invariant-loop-m : goal.invariant-loop-m
invariant-loop-m l = record {
  each : length l.tallies ≡ length l.initial.tallies;
  counted : AreTallies l.grid l.evidence l.last l.m l.tallies;
}
