use Rattle.history_rules.proofs.SoundLemmas
use Rattle.history_rules.proofs.laws.history_is_diagnosed.Goals as goal

pub returns : goal.returns
returns c = SoundLemmas.history_is_diagnosed
