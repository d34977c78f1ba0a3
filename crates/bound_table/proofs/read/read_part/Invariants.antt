use Rattle.std.proofs.Common.{◌≡◌, ◌+◌, ◌≤◌, length}
use Rattle.bound_table.specs.Report.{after_text, Inside}
use Rattle.bound_table.proofs.read.read_part.Given as goal

abbrev pub invariant-lines : goal.invariant-lines
invariant-lines l = record {
  reading : after_text l.grid (Inside l.fn.bounds) l.left.number l.left.text.now ≡ after_text l.grid (Inside l.bounds) l.number l.rest;
  few : l.number + length l.rest ≤ 268435457;
}

abbrev pub decreases-lines : goal.decreases-lines
decreases-lines l = length l.rest
