use Rattle.history_rules.proofs.TimelyLemmas
use Rattle.history_rules.proofs.laws.history_is_timely.Goals as goal

pub returns : goal.returns
returns c = TimelyLemmas.history_is_timely
