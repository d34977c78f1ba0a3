use Rattle.grid_model.proofs.SoundParts.{sound_problem}
use Rattle.grid_model.proofs.laws.problem_is_sound.Goals as goal

pub returns : goal.returns
returns c = sound_problem
