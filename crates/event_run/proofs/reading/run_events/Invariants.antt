use Rattle.std.proofs.Common.{◌≡◌, true, length}
use Rattle.event_run.specs.Entering.{StaysEngine}
use Rattle.event_run.specs.Reached.{Reached}
use Rattle.event_run.proofs.reading.run_events.Given as goal

-- the bytes so far were taken, and their entries written; nothing failed
abbrev pub invariant-reads : goal.invariant-reads
invariant-reads g l = record {
  reached : Reached (g.S.Shelf.files l.fn.shelf) (g.S.Shelf.files l.shelf) l.name (g.S.Shelf.left l.shelf) (g.K.Sink.written l.fn.out) (g.K.Sink.written l.out) l.fn.engine.grid l.run l.engine l.room;
  started : g.S.Shelf.started l.shelf ≡ true;
  shelf : g.S.Shelf.faults l.shelf ≡ g.S.Shelf.faults l.fn.shelf;
  out : g.K.Sink.faults l.out ≡ g.K.Sink.faults l.fn.out;
  engine : StaysEngine l.fn.engine l.engine;
  piece : length l.piece ≡ 65536;
}

abbrev pub decreases-reads : goal.decreases-reads
decreases-reads g l = l.room
