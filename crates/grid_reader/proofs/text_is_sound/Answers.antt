use Rattle.grid_reader.proofs.TextSound.{text_sound}
use Rattle.grid_reader.proofs.text_is_sound.Goals as goal

pub returns : goal.returns
returns c = text_sound
