use Rattle.grid_model.proofs.Started.{starting_network}
use Rattle.grid_model.proofs.laws.starting_network.Goals as goal

pub returns : goal.returns
returns c = starting_network
