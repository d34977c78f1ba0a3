-- The run over the events stops for want of memory alone.
use Rattle.std.proofs.Common.{ℕ, List, [], Option, None, Some, sym, subst}
use Rattle.event_run.specs.Reading.{Stops}
use Rattle.engine_run.specs.Ended.{IsTextStop}
use Rattle.trial_run.proofs.MadeRuns.{text_files, made_stop}
use Rattle.trial_run.proofs.trial.run_texts.Goals as goal

pub returns-in-Err-clause-stopped : goal.returns-in-Err-clause-stopped
returns-in-Err-clause-stopped c =
    let start : Option (List ℕ) = Some c.new-shelf.result.rest.now in
    let left : Option (List ℕ) = Some c.run_events.new.shelf.rest.now in
    subst (IsTextStop c.args.network.now) (sym c.status_by.ensures)
    (made_stop c.args.network.now c.args.events.now c.requires.events c.requires.few [] start left None None c.in_ok-engine.engine.grid c.run_events.result c.in-Err.stop c.in-Err.is
    c.run_events.ensures.shelf c.run_events.ensures.out
    (subst (λ (xs : List ℕ). Stops (Some (text_files xs)) [] start left None None c.in_ok-engine.engine.grid c.in-Err.stop) c.new-shelf.ensures c.in-Err.ensures.stopped))
