use Rattle.std.proofs.Common.{◌≡◌, ◌+◌, ◌≤◌, length}
use Rattle.grid_model.specs.Parts.{Parts}
use Rattle.bound_table.specs.Report.{report_reading, after_text, Before}
use Rattle.bound_table.proofs.read.find_bounds.Given as goal

abbrev pub invariant-lines : goal.invariant-lines
invariant-lines l = record {
  reading : (g : Parts) → report_reading g l.report ≡ after_text g Before l.number l.rest;
  few : l.number + length l.rest ≤ 268435457;
}

abbrev pub decreases-lines : goal.decreases-lines
decreases-lines l = length l.rest
