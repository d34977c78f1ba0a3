use Rattle.std.proofs.Common.{◌≡◌, ◌≤◌, ◌+◌}
use Rattle.diagnosis.proofs.Flagged.{AreFlagged}
use Rattle.diagnosis.proofs.flags.flag_all.Given as goal

abbrev pub invariant-loop-n : goal.invariant-loop-n
invariant-loop-n g l = record {
  flagged : AreFlagged l.grid l.costs l.n-index l.flags.opened.flags l.flags.dark.flags;
  opened_begun : l.flags.opened.begun ≡ l.fn.flags.opened.begun;
  dark_begun : l.flags.dark.begun ≡ l.fn.flags.dark.begun;
  steps : l.steps ≤ l.fn.steps + l.n-index;
}
