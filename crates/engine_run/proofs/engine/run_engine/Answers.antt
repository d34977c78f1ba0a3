-- Where the run stops, before the events or among them.
use Rattle.std.proofs.Common.{Some, refl, sym, subst}
use Rattle.command_words.specs.Forms.{Replay}
use Rattle.command_words.specs.Seen.{places_view}
use Rattle.run_rules.specs.Run.{run_of, IsSilentReplay}
use Rattle.run_rules.specs.Ends.{IsEnd}
use Rattle.run_rules.specs.declared.status.Status.{Status}
use Rattle.run_rules.specs.declared.status.Status.TheVariants.{ReadFault}
use Rattle.run_rules.proofs.FaultsTold.{left_by, tells_last}
use Rattle.engine_run.specs.Ended.{IsRunStop}
use Rattle.engine_run.proofs.Ends.{stop_ended, stop_kind, never_silent, read_told, write_told}
use Rattle.engine_run.proofs.engine.run_engine.Goals as goal

pub returns-in-Err-clause-stopped : goal.returns-in-Err-clause-stopped
returns-in-Err-clause-stopped g c = λ wish.
    let files = g.S.Shelf.files c.args.shelf.now in
    let places = places_view c.args.places in
    let before = g.K.Sink.written c.args.out.now in
    let now = g.K.Sink.written c.run_events.new.out in
    subst (λ (s : Status). IsEnd (run_of files (g.S.Shelf.left c.args.shelf.now) (g.S.Shelf.left c.run_events.new.shelf) before now (Some (Replay places wish))) s) (sym c.status_by.ensures)
    (stop_ended files (g.S.Shelf.files c.start_engine.new.shelf) c.start_engine.ensures.files (g.S.Shelf.left c.run_events.new.shelf) before now places c.in_ok-engine.engine.grid (g.S.Shelf.left c.start_engine.new.shelf) c.in_ok-engine.ensures.network (g.S.Shelf.left c.args.shelf.now) wish c.in-Err.stop c.in-Err.ensures.stopped)

pub returns-in-Err-clause-kind : goal.returns-in-Err-clause-kind
returns-in-Err-clause-kind g c = subst IsRunStop (sym c.status_by.ensures) (stop_kind c.in-Err.stop)

pub returns-in-Err-clause-idle : goal.returns-in-Err-clause-idle
returns-in-Err-clause-idle g c = λ silent. absurd (never_silent c.in-Err.stop (subst IsSilentReplay c.status_by.ensures silent))

pub returns-in-Err-clause-shelf : goal.returns-in-Err-clause-shelf
returns-in-Err-clause-shelf g c =
    tells_last _ _ _ _ (left_by c.start_engine.result c.in_ok-engine.engine ReadFault _ _ c.in_ok-engine.was c.start_engine.ensures.shelf)
    (read_told c.run_events.result _ c.in-Err.stop c.status_by.result c.in-Err.is refl c.status_by.ensures _ _ c.run_events.ensures.shelf)

pub returns-in-Err-clause-out : goal.returns-in-Err-clause-out
returns-in-Err-clause-out g c =
    write_told c.run_events.result _ c.in-Err.stop c.status_by.result c.in-Err.is refl c.status_by.ensures _ _ c.run_events.ensures.out
