use Rattle.history_rules.proofs.PeriodLemmas
use Rattle.history_rules.proofs.laws.periods_add_up.Goals as goal

pub returns : goal.returns
returns c = PeriodLemmas.periods_add_up
