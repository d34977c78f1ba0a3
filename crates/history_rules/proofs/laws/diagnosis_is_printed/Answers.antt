use Rattle.history_rules.proofs.ShownLemmas
use Rattle.history_rules.proofs.laws.diagnosis_is_printed.Goals as goal

pub returns : goal.returns
returns c = ShownLemmas.diagnosis_is_printed
