use Rattle.grid_maker.proofs.Sizes.{texts_short}
use Rattle.grid_maker.proofs.laws.texts_are_short.Goals as goal

pub returns : goal.returns
returns c = texts_short
