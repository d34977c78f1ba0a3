-- Where the run stops, and where it ends.
use Rattle.std.proofs.Common.{◌≡◌, ◌≤◌, ◌<◌, ℕ, [], refl, sym, ◌∙◌, subst, arith, Result, Ok}
use Rattle.std.specs.Prelude.{IfErr}
use Rattle.event_rules.specs.Lines.{lines}
use Rattle.history_rules.specs.Output.{entries}
use Rattle.run_rules.specs.Files.{most_event_lines}
use Rattle.run_rules.proofs.FaultsTold.{left_count, no_fault, tells_last, tells_as}
use Rattle.event_run.specs.Reading.{DidReadAll, Stops}
use Rattle.event_run.specs.Reached.{Finished, IsLess, Leads}
use Rattle.event_run.specs.declared.reading.EventsStop.{EventsStop}
use Rattle.event_run.specs.declared.reading.EventsStop.TheVariants.{ReadFailed, WriteFailed}
use Rattle.event_run.specs.declared.reading.Progress.{Progress}
use Rattle.event_run.proofs.PutLines.{done, at_done, at_failed}
use Rattle.event_run.proofs.EventsRead.{reached_none, took_none, start_stopped, all_read}
use Rattle.event_run.proofs.TakenLines.{taken_few}
use Rattle.event_run.proofs.Told.{ok_is_no_stop, read_is_no_write, failed_told, stop_passed, stop_any, passed_told, stays_on}
use Rattle.event_run.proofs.reading.run_events.Goals as goal

pub start-requires : goal.start-requires
start-requires g c = c.requires.allowed

pub reads-init : goal.reads-init
reads-init g c =
    let ok = done c.start.result (sym c.is_err.ensures.value ∙ c.if-is_err.false) in record {
      reached =
          reached_none (g.S.Shelf.files c.args.shelf.now) (g.S.Shelf.files c.start.new.self) c.args.name.now (g.S.Shelf.left c.start.new.self) (g.K.Sink.written c.args.out.now) c.new-run.result c.args.engine.now
          (took_none (g.S.Shelf.files c.args.shelf.now) (g.S.Shelf.left c.start.new.self) c.args.name.now (at_done c.start.result _ c.start.ensures.whole ok)) c.start.ensures.files
          (c.new-run.ensures (g.K.Sink.written c.args.out.now) c.args.engine.now c.requires.engine);
      started = at_done c.start.result _ c.start.ensures.begun ok;
      shelf = at_done c.start.result _ c.start.ensures.cause.kept ok;
      out = refl;
      engine = record { grid = refl; engine = ([], c.requires.engine) };
      piece = refl;
    }

pub returns-then-is_err : goal.returns-then-is_err
returns-then-is_err g c =
    let failed = sym c.is_err.ensures.value ∙ c.if-is_err.true in record {
      files = c.start.ensures.files;
      grid = refl;
      engine = ([], c.requires.engine);
      few = tt;
      all = tt;
      stopped = start_stopped (g.S.Shelf.files c.args.shelf.now) c.args.name.now (g.S.Shelf.left c.args.shelf.now) (g.S.Shelf.left c.start.new.self) (g.K.Sink.written c.args.out.now) c.args.engine.now.grid
          (at_failed c.start.result _ c.start.ensures.same_left failed);
      shelf = failed_told (g.S.Shelf.faults c.args.shelf.now) (g.S.Shelf.faults c.start.new.self) c.start.result _ c.start.ensures.cause failed refl;
      out = no_fault (g.K.Sink.faults c.args.out.now) (g.K.Sink.faults c.args.out.now) _ refl (λ e. read_is_no_write e);
    }

pub slice_bounds-read_more-end : goal.slice_bounds-read_more-end
slice_bounds-read_more-end g c = sym c.reads.invariant.piece

some_piece : (n : ℕ) → n ≡ 65536 → 0 < n
some_piece n all = omega arith

pub read_more-requires : goal.read_more-requires
read_more-requires g c =
    let inv = c.reads.invariant in record {
      started = inv.started;
      piece = some_piece _ inv.piece;
      reached = (g.S.Shelf.files c.args.shelf.now, c.args.name.now, g.K.Sink.written c.args.out.now, c.args.engine.now.grid, inv.reached);
    }

pub returns-in_err-left : goal.returns-in_err-left
returns-in_err-left g c =
    let stop : EventsStop = c.in_err-left.field-0.0 in
    let is = stop_passed c.from_residual.result stop c.from_residual.ensures.1 in
    let inv = c.reads.invariant in record {
      files = c.read_more.ensures.reads.files ∙ inv.reached.same;
      grid = c.read_more.ensures.goes.engine.grid ∙ inv.engine.grid;
      engine = c.read_more.ensures.goes.engine.engine;
      few = stop_any c.from_residual.result stop (λ _. c.read_more.new.engine.field.applied ≤ most_event_lines) is;
      all = stop_any c.from_residual.result stop
          (DidReadAll (g.S.Shelf.files c.args.shelf.now) c.args.name.now (g.S.Shelf.left c.read_more.new.shelf) (g.K.Sink.written c.args.out.now) (g.K.Sink.written c.read_more.new.out) c.args.engine.now.grid c.read_more.new.engine) is;
      stopped =
          subst (λ (r : Result ℕ EventsStop). IfErr r
          (Stops (g.S.Shelf.files c.args.shelf.now) c.args.name.now (g.S.Shelf.left c.args.shelf.now) (g.S.Shelf.left c.read_more.new.shelf) (g.K.Sink.written c.args.out.now) (g.K.Sink.written c.read_more.new.out) c.args.engine.now.grid)) (sym is)
          (c.in_err-left.ensures.leads (g.S.Shelf.files c.args.shelf.now) c.args.name.now (g.K.Sink.written c.args.out.now) c.args.engine.now.grid inv.reached (g.S.Shelf.left c.args.shelf.now));
      shelf =
          tells_last (g.S.Shelf.faults c.args.shelf.now) (g.S.Shelf.faults c.reads.shelf) (g.S.Shelf.faults c.read_more.new.shelf) _ inv.shelf
          (passed_told (g.S.Shelf.faults c.reads.shelf) (g.S.Shelf.faults c.read_more.new.shelf) c.read_more.result c.from_residual.result stop ReadFailed c.in_err-left.was is c.read_more.ensures.reads.faults);
      out =
          tells_last (g.K.Sink.faults c.args.out.now) (g.K.Sink.faults c.reads.out) (g.K.Sink.faults c.read_more.new.out) _ inv.out
          (passed_told (g.K.Sink.faults c.reads.out) (g.K.Sink.faults c.read_more.new.out) c.read_more.result c.from_residual.result stop WriteFailed c.in_err-left.was is c.read_more.ensures.goes.faults);
    }

pub reads-preserved : goal.reads-preserved
reads-preserved g c =
    let inv = c.reads.invariant in record {
      reached =
          subst (λ (p : Progress). Leads (g.S.Shelf.files c.args.shelf.now) (g.S.Shelf.files c.read_more.new.shelf) c.args.name.now (g.S.Shelf.left c.read_more.new.shelf) (g.K.Sink.written c.args.out.now) (g.K.Sink.written c.read_more.new.out) c.args.engine.now.grid c.read_more.new.run c.read_more.new.engine (Ok p)) c.in-More.is
          (c.in_ok-left.ensures.leads (g.S.Shelf.files c.args.shelf.now) c.args.name.now (g.K.Sink.written c.args.out.now) c.args.engine.now.grid inv.reached);
      started = c.in_ok-left.ensures.started;
      shelf = left_count (g.S.Shelf.faults c.reads.shelf) (g.S.Shelf.faults c.read_more.new.shelf) _ c.in_ok-left.ensures.reads.faults (λ e. ok_is_no_stop _ ReadFailed e) ∙ inv.shelf;
      out = left_count (g.K.Sink.faults c.reads.out) (g.K.Sink.faults c.read_more.new.out) _ c.in_ok-left.ensures.goes.faults (λ e. ok_is_no_stop _ WriteFailed e) ∙ inv.out;
      engine = stays_on c.args.engine.now c.reads.engine c.read_more.new.engine inv.engine.grid c.read_more.ensures.goes.engine;
      piece = c.read_more.auto.piece ∙ inv.piece;
    }

pub reads-smaller : goal.reads-smaller
reads-smaller g c = subst (IsLess c.reads.room) c.in-More.is c.in_ok-left.ensures.less

pub refused-requires : goal.refused-requires
refused-requires g c =
    let end : Finished (g.S.Shelf.files c.args.shelf.now) c.args.name.now (g.S.Shelf.left c.read_more.new.shelf) (g.K.Sink.written c.args.out.now) (g.K.Sink.written c.read_more.new.out) c.args.engine.now.grid c.read_more.new.run c.read_more.new.engine =
    subst (λ (p : Progress). Leads (g.S.Shelf.files c.args.shelf.now) (g.S.Shelf.files c.read_more.new.shelf) c.args.name.now (g.S.Shelf.left c.read_more.new.shelf) (g.K.Sink.written c.args.out.now) (g.K.Sink.written c.read_more.new.out) c.args.engine.now.grid c.read_more.new.run c.read_more.new.engine (Ok p)) c.in-Ended.is
    (c.in_ok-left.ensures.leads (g.S.Shelf.files c.args.shelf.now) c.args.name.now (g.K.Sink.written c.args.out.now) c.args.engine.now.grid c.reads.invariant.reached) in
    (lines end.bytes, entries c.args.engine.now.grid 1 [] (lines end.bytes), end.lines.has)

pub returns-in-Ended : goal.returns-in-Ended
returns-in-Ended g c =
    let inv = c.reads.invariant in
    let end : Finished (g.S.Shelf.files c.args.shelf.now) c.args.name.now (g.S.Shelf.left c.read_more.new.shelf) (g.K.Sink.written c.args.out.now) (g.K.Sink.written c.read_more.new.out) c.args.engine.now.grid c.read_more.new.run c.read_more.new.engine =
    subst (λ (p : Progress). Leads (g.S.Shelf.files c.args.shelf.now) (g.S.Shelf.files c.read_more.new.shelf) c.args.name.now (g.S.Shelf.left c.read_more.new.shelf) (g.K.Sink.written c.args.out.now) (g.K.Sink.written c.read_more.new.out) c.args.engine.now.grid c.read_more.new.run c.read_more.new.engine (Ok p)) c.in-Ended.is
    (c.in_ok-left.ensures.leads (g.S.Shelf.files c.args.shelf.now) c.args.name.now (g.K.Sink.written c.args.out.now) c.args.engine.now.grid inv.reached) in record {
      files = c.read_more.ensures.reads.files ∙ inv.reached.same;
      grid = c.read_more.ensures.goes.engine.grid ∙ inv.engine.grid;
      engine = c.read_more.ensures.goes.engine.engine;
      few = taken_few (lines end.bytes) (entries c.args.engine.now.grid 1 [] (lines end.bytes)) c.read_more.new.run.taken c.read_more.new.engine end.lines.has;
      all =
          all_read (g.S.Shelf.files c.args.shelf.now) (g.S.Shelf.left c.read_more.new.shelf) c.args.name.now (g.K.Sink.written c.args.out.now) (g.K.Sink.written c.read_more.new.out) c.args.engine.now.grid c.read_more.new.run c.read_more.new.engine c.refused.result end
          (c.refused.ensures (lines end.bytes) (entries c.args.engine.now.grid 1 [] (lines end.bytes)) end.lines.has);
      stopped = tt;
      shelf =
          tells_last (g.S.Shelf.faults c.args.shelf.now) (g.S.Shelf.faults c.reads.shelf) (g.S.Shelf.faults c.read_more.new.shelf) _ inv.shelf
          (tells_as (g.S.Shelf.faults c.reads.shelf) (g.S.Shelf.faults c.read_more.new.shelf) _ _ (λ e. absurd (ok_is_no_stop _ ReadFailed e)) (λ e. absurd (ok_is_no_stop _ ReadFailed e)) c.in_ok-left.ensures.reads.faults);
      out =
          tells_last (g.K.Sink.faults c.args.out.now) (g.K.Sink.faults c.reads.out) (g.K.Sink.faults c.read_more.new.out) _ inv.out
          (tells_as (g.K.Sink.faults c.reads.out) (g.K.Sink.faults c.read_more.new.out) _ _ (λ e. absurd (ok_is_no_stop _ WriteFailed e)) (λ e. absurd (ok_is_no_stop _ WriteFailed e)) c.in_ok-left.ensures.goes.faults);
    }
