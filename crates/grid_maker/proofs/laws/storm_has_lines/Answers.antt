use Rattle.grid_maker.proofs.Sizes.{storm_lines}
use Rattle.grid_maker.proofs.laws.storm_has_lines.Goals as goal

pub returns : goal.returns
returns c = storm_lines
