use Rattle.std.proofs.Common.{◌≡◌, ◌<◌, ℕ, false, length, get_or}
use Rattle.outage_engine.specs.Recording.{is_meter_dark}
use Rattle.outage_engine.proofs.recording.dark_meters.Given as goal

abbrev pub invariant-loop-m : goal.invariant-loop-m
invariant-loop-m l = record {
  count : length l.flags.items ≡ length l.grid.meters;
  flags : (k : ℕ) → k < l.m → get_or l.flags.items k false ≡ is_meter_dark l.grid l.judged k;
}
