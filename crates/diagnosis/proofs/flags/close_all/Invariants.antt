use Rattle.std.proofs.Common.{◌≡◌, ℕ, ◌<◌, false, length}
use Rattle.diagnosis.specs.Judgement.{flag_in}
use Rattle.diagnosis.proofs.flags.close_all.Given as goal

abbrev pub invariant-loop-d : goal.invariant-loop-d
invariant-loop-d l = record {
  each : length l.opened.flags ≡ length l.grid.devices;
  none : (d : ℕ) → d < l.d → flag_in l.opened.flags d ≡ false;
  begun : l.opened.begun ≡ l.fn.opened.begun;
}
