use Rattle.history_rules.proofs.SoundLemmas
use Rattle.history_rules.proofs.laws.problem_is_sound.Goals as goal

pub returns : goal.returns
returns c = SoundLemmas.problem_is_sound
