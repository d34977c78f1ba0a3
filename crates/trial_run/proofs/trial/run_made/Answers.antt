-- The texts are those that are made, and a storm has few lines.
use Rattle.std.proofs.Common.{◌∙◌}
use Rattle.trial_run.proofs.MadeRuns.{few_lines}
use Rattle.trial_run.proofs.trial.run_made.Goals as goal

pub run_texts-requires-clause-few : goal.run_texts-requires-clause-few
run_texts-requires-clause-few c =
    few_lines c.deref-in-Ok.result.now c.args.feeders (c.deref-in-Ok.ensures.value ∙ c.in-Ok.ensures.events)
    (c.storm_has_lines.ensures c.args.feeders c.requires.some c.requires.few) c.requires.few
