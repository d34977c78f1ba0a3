use Rattle.grid_model.proofs.SoundParts.{sound_network}
use Rattle.grid_model.proofs.laws.network_is_sound.Goals as goal

pub returns : goal.returns
returns c = sound_network
