-- What one more read leads to.
use Rattle.std.proofs.Common.{◌≡◌, ◌<◌, ◌≤◌, ◌-◌, ℕ, List, true, [], ◌++◌, length, take, min, subst, refl, sym, arith}
use Rattle.std.proofs.lemmas.List.{length-take}
use Rattle.event_rules.specs.Lines.{lines}
use Rattle.line_text.specs.Cutting.{ended_from}
use Rattle.event_run.specs.declared.reading.EventsStop.{EventsStop}
use Rattle.event_run.specs.declared.reading.EventsStop.TheVariants.{ReadFailed, WriteFailed}
use Rattle.event_run.specs.Reached.{IsLess, Leads}
use Rattle.event_run.proofs.EventsRead.{read_stopped}
use Rattle.event_run.proofs.ReadOn.{number_fits, piece_fits, end_stops, end_finished, piece_stops, piece_over, piece_reached}
use Rattle.event_run.proofs.Told.{ok_is_no_stop, read_is_no_write, bytes_are_no_write, bytes_are_no_read, stop_passed, stop_any, goes_still, goes_as, goes_passed, read_well, reads_on}
use Rattle.event_run.proofs.reading.read_more.Goals as goal

pub read-requires : goal.read-requires
read-requires g c = record { room = c.requires.piece; begun = c.requires.started }

pub returns-in-Err : goal.returns-in-Err
returns-in-Err g c = record {
  started = tt;
  less = tt;
  leads = λ files name before p reached start.
      read_stopped c.lines_from_parts.ensures files name reached.bytes start (g.S.Shelf.left c.args.shelf.now) (g.S.Shelf.left c.read.new.self) before (g.K.Sink.written c.args.out.now) p reached.took c.in-Err.ensures.same_left
      reached.read.lines.written;
  reads = record {
    files = c.read.ensures.files;
    faults = record { later = c.read.ensures.cause.later; rose = λ _. c.in-Err.ensures.cause.failed; told = λ _. refl };
  };
  goes = goes_still c.args.engine.now c.args.engine.now (g.K.Sink.faults c.args.out.now) _ (record { grid = refl; engine = (_, c.requires.reached.4.read.lines.has.engine) }) (λ e. read_is_no_write e);
}

pub end-requires : goal.end-requires
end-requires g c = let some = c.requires.reached in record { read = (some.4.bytes, some.2, some.3, some.4.read); room = number_fits some.4 }

pub take_piece-requires : goal.take_piece-requires
take_piece-requires g c =
    let some = c.requires.reached in record { read = (some.4.bytes, some.2, some.3, some.4.read); room = piece_fits some.4 c.read.new.into c.in-Ok.count c.min.result c.min.ensures }

within : (n old new : ℕ) → n ≤ old → new ≡ old → n ≤ new
within n old new fits same = omega arith

less_room : (n room : ℕ) → (n ≡ 0 → ⊥) → n ≤ room → room - n < room
less_room n room some fits = omega arith

least_within : (m n room size : ℕ) → m ≡ min n room → n ≤ size → m ≤ size
least_within m n room size least fits = omega arith

taken_whole : (m : ℕ) (into : List ℕ) → m ≤ length into → m ≡ length (take m into)
taken_whole m into fits = let taken = length-take m into in omega arith

pub slice_bounds-take_piece-end : goal.slice_bounds-take_piece-end
slice_bounds-take_piece-end g c =
    least_within c.min.result c.in-Ok.count c.args.room (length c.read.new.into) c.min.ensures (within c.in-Ok.count (length c.args.piece.now) (length c.read.new.into) c.in-Ok.ensures.bound c.read.auto.into)

pub slice_bounds-take_piece-end-2 : goal.slice_bounds-take_piece-end-2
slice_bounds-take_piece-end-2 g c = taken_whole c.min.result c.read.new.into (slice_bounds-take_piece-end g c)

-- the run stops among the lines of the whole text
pub returns-in_err-end : goal.returns-in_err-end
returns-in_err-end g c =
    let stop : EventsStop = c.in_err-end.field-0.0 in
    let is = stop_passed c.from_residual.result stop c.from_residual.ensures.1 in
    let some = c.requires.reached in record {
      started = stop_any c.from_residual.result stop (λ _. g.S.Shelf.started c.read.new.self ≡ true) is;
      less = stop_any c.from_residual.result stop (IsLess c.args.room) is;
      leads = λ files name before p reached.
          subst (Leads files (g.S.Shelf.files c.read.new.self) name (g.S.Shelf.left c.read.new.self) before (g.K.Sink.written c.end.new.out) p c.end.new.self c.end.new.engine) (sym is)
          (end_stops reached (g.S.Shelf.left c.read.new.self) (g.K.Sink.written c.end.new.out) c.read.new.into c.in-Ok.count c.in-Ok.ensures.bytes c.run_of_parts.ensures c.lines_of_limit.ensures stop c.if-count-eq0.true
          (c.in_err-end.ensures.leads reached.bytes before p reached.read));
      reads = reads_on (g.S.Shelf.files c.args.shelf.now) (g.S.Shelf.files c.read.new.self) (g.S.Shelf.faults c.args.shelf.now) (g.S.Shelf.faults c.read.new.self) _ c.read.ensures.files c.in-Ok.ensures.cause.kept
          (read_well (lines some.4.bytes) some.2 (g.K.Sink.written c.end.new.out) some.3 c.from_residual.result stop is (c.in_err-end.ensures.leads some.4.bytes some.2 some.3 some.4.read));
      goes = goes_passed c.args.engine.now c.end.new.engine (g.K.Sink.faults c.args.out.now) (g.K.Sink.faults c.end.new.out) c.end.result c.from_residual.result stop WriteFailed c.in_err-end.was is c.end.ensures.goes;
    }

-- or all is done
pub returns-then-count-eq0 : goal.returns-then-count-eq0
returns-then-count-eq0 g c = record {
  started = c.read.ensures.begun;
  less = tt;
  leads = λ files name before p reached.
      end_finished reached (g.S.Shelf.left c.read.new.self) (g.K.Sink.written c.end.new.out) c.read.new.into c.in-Ok.count c.in-Ok.ensures.bytes c.end.new.self c.end.new.engine c.if-count-eq0.true
      (c.in_ok-end.ensures.leads reached.bytes before p reached.read);
  reads = reads_on (g.S.Shelf.files c.args.shelf.now) (g.S.Shelf.files c.read.new.self) (g.S.Shelf.faults c.args.shelf.now) (g.S.Shelf.faults c.read.new.self) _ c.read.ensures.files c.in-Ok.ensures.cause.kept (λ e. ok_is_no_stop _ ReadFailed e);
  goes = goes_as c.args.engine.now c.end.new.engine (g.K.Sink.faults c.args.out.now) (g.K.Sink.faults c.end.new.out) _ _ (λ e. absurd (ok_is_no_stop _ WriteFailed e)) (λ e. absurd (ok_is_no_stop _ WriteFailed e)) c.in_ok-end.ensures.goes;
}

-- the run stops among the lines that end in the piece
pub returns-in_err-take_piece : goal.returns-in_err-take_piece
returns-in_err-take_piece g c =
    let stop : EventsStop = c.in_err-take_piece.field-0.0 in
    let is = stop_passed c.from_residual-in_err-take_piece.result stop c.from_residual-in_err-take_piece.ensures.1 in
    let some = c.requires.reached in record {
      started = stop_any c.from_residual-in_err-take_piece.result stop (λ _. g.S.Shelf.started c.read.new.self ≡ true) is;
      less = stop_any c.from_residual-in_err-take_piece.result stop (IsLess c.args.room) is;
      leads = λ files name before p reached.
          subst (Leads files (g.S.Shelf.files c.read.new.self) name (g.S.Shelf.left c.read.new.self) before (g.K.Sink.written c.take_piece.new.out) p c.take_piece.new.self c.take_piece.new.engine) (sym is)
          (piece_stops reached (g.S.Shelf.left c.read.new.self) (g.K.Sink.written c.take_piece.new.out) c.read.new.into c.in-Ok.count c.in-Ok.ensures.bytes c.lines_from_parts.ensures c.run_of_parts.ensures c.lines_of_limit.ensures c.min.result stop
          c.min.ensures (c.in_err-take_piece.ensures.leads reached.bytes before p reached.read));
      reads = reads_on (g.S.Shelf.files c.args.shelf.now) (g.S.Shelf.files c.read.new.self) (g.S.Shelf.faults c.args.shelf.now) (g.S.Shelf.faults c.read.new.self) _ c.read.ensures.files c.in-Ok.ensures.cause.kept
          (read_well (ended_from [] (some.4.bytes ++ take c.min.result c.read.new.into)) some.2 (g.K.Sink.written c.take_piece.new.out) some.3 c.from_residual-in_err-take_piece.result stop is
          (c.in_err-take_piece.ensures.leads some.4.bytes some.2 some.3 some.4.read));
      goes = goes_passed c.args.engine.now c.take_piece.new.engine (g.K.Sink.faults c.args.out.now) (g.K.Sink.faults c.take_piece.new.out) c.take_piece.result c.from_residual-in_err-take_piece.result stop WriteFailed c.in_err-take_piece.was is
          c.take_piece.ensures.goes;
    }

-- there are too many bytes
pub returns-then-count-room : goal.returns-then-count-room
returns-then-count-room g c = record {
  started = tt;
  less = tt;
  leads = λ files name before p reached start.
      piece_over reached (g.S.Shelf.left c.read.new.self) (g.K.Sink.written c.take_piece.new.out) c.read.new.into c.in-Ok.count c.in-Ok.ensures.bytes c.lines_from_parts.ensures c.lines_of_limit.ensures c.min.result c.take_piece.new.self
      c.take_piece.new.engine c.min.ensures c.if-count-room.true (within c.in-Ok.count (length c.args.piece.now) (length c.read.new.into) c.in-Ok.ensures.bound c.read.auto.into) (c.in_ok-take_piece.ensures.leads reached.bytes before p reached.read);
  reads = reads_on (g.S.Shelf.files c.args.shelf.now) (g.S.Shelf.files c.read.new.self) (g.S.Shelf.faults c.args.shelf.now) (g.S.Shelf.faults c.read.new.self) _ c.read.ensures.files c.in-Ok.ensures.cause.kept (λ e. bytes_are_no_read e);
  goes = goes_as c.args.engine.now c.take_piece.new.engine (g.K.Sink.faults c.args.out.now) (g.K.Sink.faults c.take_piece.new.out) _ _ (λ e. absurd (ok_is_no_stop _ WriteFailed e)) (λ e. absurd (bytes_are_no_write e)) c.in_ok-take_piece.ensures.goes;
}

-- or more is to be read
pub returns : goal.returns
returns g c = record {
  started = c.read.ensures.begun;
  less = less_room c.in-Ok.count c.args.room c.if-count-eq0.false c.if-count-room.false;
  leads = λ files name before p reached.
      piece_reached reached (g.S.Shelf.left c.read.new.self) (g.K.Sink.written c.take_piece.new.out) c.read.new.into c.in-Ok.count c.in-Ok.ensures.bytes (g.S.Shelf.files c.read.new.self) c.min.result c.take_piece.new.self
      c.take_piece.new.engine c.read.ensures.files c.min.ensures c.if-count-room.false (within c.in-Ok.count (length c.args.piece.now) (length c.read.new.into) c.in-Ok.ensures.bound c.read.auto.into) (c.in_ok-take_piece.ensures.leads reached.bytes before p reached.read);
  reads = reads_on (g.S.Shelf.files c.args.shelf.now) (g.S.Shelf.files c.read.new.self) (g.S.Shelf.faults c.args.shelf.now) (g.S.Shelf.faults c.read.new.self) _ c.read.ensures.files c.in-Ok.ensures.cause.kept (λ e. ok_is_no_stop _ ReadFailed e);
  goes = goes_as c.args.engine.now c.take_piece.new.engine (g.K.Sink.faults c.args.out.now) (g.K.Sink.faults c.take_piece.new.out) _ _ (λ e. absurd (ok_is_no_stop _ WriteFailed e)) (λ e. absurd (ok_is_no_stop _ WriteFailed e)) c.in_ok-take_piece.ensures.goes;
}
