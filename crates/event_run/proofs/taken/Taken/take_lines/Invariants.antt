use Rattle.std.proofs.Common.{◌≡◌, ℕ, List, Option}
use Rattle.grid_model.specs.Parts.{Parts}
use Rattle.line_text.specs.BlockReading.{AreLeft, lines_left}
use Rattle.event_run.specs.Entering.{StaysEngine}
use Rattle.event_run.specs.Pieces.{HasWritten}
use Rattle.event_run.proofs.BlockLines.{HasTakenFront}
use Rattle.event_run.proofs.taken.Taken.take_lines.Given as goal

-- a front of the lines was taken, and the rest is left
abbrev pub invariant-lines : goal.invariant-lines
invariant-lines g l = record {
  front : (sofar all : List (List ℕ)) (before : Option (List ℕ)) (p : Parts) → AreLeft l.fn.lines all → HasWritten sofar before (g.K.Sink.written l.fn.out) p l.fn.self l.fn.engine
      → HasTakenFront sofar all before (g.K.Sink.written l.out) l.lines l.self l.engine;
  engine : StaysEngine l.fn.engine l.engine;
  out : g.K.Sink.faults l.out ≡ g.K.Sink.faults l.fn.out;
}

abbrev pub decreases-lines : goal.decreases-lines
decreases-lines g l = lines_left l.lines
