-- How the run over the events, and then the last write, end the replay.
use Rattle.std.proofs.Common.{Some, ◌∙◌, sym, subst}
use Rattle.command_words.specs.Forms.{Replay}
use Rattle.command_words.specs.Seen.{places_view}
use Rattle.run_rules.specs.Run.{run_of, IsSilentReplay}
use Rattle.run_rules.specs.Ends.{IsEnd}
use Rattle.run_rules.specs.declared.status.Status.{Status}
use Rattle.run_rules.specs.declared.status.Status.TheVariants.{ReadFault, WriteFault}
use Rattle.run_rules.proofs.FaultsTold.{left_by, no_fault, tells_last}
use Rattle.engine_run.proofs.Ends.{put_told, put_read, put_loud, replay_ended}
use Rattle.replay_run.proofs.replay.run_replay.Goals as goal

pub returns-clause-shelf : goal.returns-clause-shelf
returns-clause-shelf g c =
    no_fault _ _ _ (left_by c.run_engine.result c.in-Ok.ran ReadFault _ _ c.in-Ok.is c.run_engine.ensures.shelf) (λ e. put_read c.end_output.result (sym c.status_after.ensures ∙ e))

pub returns-clause-out : goal.returns-clause-out
returns-clause-out g c =
    tells_last _ _ _ _ (left_by c.run_engine.result c.in-Ok.ran WriteFault _ _ c.in-Ok.is c.run_engine.ensures.out) (put_told c.end_output.result c.status_after.result _ _ c.status_after.ensures c.end_output.ensures.out)

pub returns-clause-idle : goal.returns-clause-idle
returns-clause-idle g c = λ silent. absurd (put_loud c.end_output.result (subst IsSilentReplay c.status_after.ensures silent))

pub returns-clause-ended : goal.returns-clause-ended
returns-clause-ended g c =
    let files = g.S.Shelf.files c.args.shelf.now in
    let left_before = g.S.Shelf.left c.args.shelf.now in
    let left = g.S.Shelf.left c.run_engine.new.shelf in
    let before = g.K.Sink.written c.args.out.now in
    let now = g.K.Sink.written c.end_output.new.out in
    let places = places_view c.args.places in
    subst (λ (s : Status). IsEnd (run_of files left_before left before now (Some (Replay places c.args.wish))) s) (sym c.status_after.ensures)
    (replay_ended c.lines_of_limit.ensures left_before left before (g.K.Sink.written c.run_engine.new.out) now places c.args.wish c.in-Ok.ran.engine c.in-Ok.ran.refused files c.end_output.result
    c.run_is_told.ensures c.bounds_are_shown.ensures c.end_output.ensures.whole c.end_output.ensures.part c.in-Ok.ensures.ran)
