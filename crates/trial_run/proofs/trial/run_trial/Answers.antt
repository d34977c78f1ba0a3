-- How the run over the made texts, and then the last write, end the trial.
use Rattle.std.proofs.Common.{sym, subst}
use Rattle.run_rules.specs.Trial.{EndsTrial, IsSilentTrial}
use Rattle.run_rules.specs.declared.status.Status.{Status}
use Rattle.engine_run.proofs.Ends.{put_told}
use Rattle.trial_run.proofs.MadeRuns.{trial_ended, stop_ended, put_loud}
use Rattle.trial_run.proofs.trial.run_trial.Goals as goal

pub returns-in-Err-clause-ended : goal.returns-in-Err-clause-ended
returns-in-Err-clause-ended g c = stop_ended c.args.feeders (g.K.Sink.written c.args.out.now) c.in-Err.status c.in-Err.ensures.stopped

pub returns-clause-ended : goal.returns-clause-ended
returns-clause-ended g c =
    let before = g.K.Sink.written c.args.out.now in
    let now = g.K.Sink.written c.put_summary.new.out in
    subst (λ (s : Status). EndsTrial before now c.args.feeders s) (sym c.status_after.ensures)
    (trial_ended c.args.feeders c.in-Ok.ran.engine c.in-Ok.ran.refused c.in-Ok.ensures.ran before now c.put_summary.result c.put_summary.ensures.whole c.put_summary.ensures.part)

pub returns-clause-idle : goal.returns-clause-idle
returns-clause-idle g c = λ silent. absurd (put_loud c.put_summary.result (subst IsSilentTrial c.status_after.ensures silent))

pub returns-clause-out : goal.returns-clause-out
returns-clause-out g c =
    put_told c.put_summary.result c.status_after.result _ _ c.status_after.ensures
    (record { later = c.put_summary.ensures.later; rose = c.put_summary.ensures.failed; told = c.put_summary.ensures.only_failed })
