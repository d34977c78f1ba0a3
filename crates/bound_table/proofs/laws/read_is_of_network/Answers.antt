-- The bounds so far are always of the network.
use Rattle.bound_table.proofs.OfNetwork.{read_of_network}
use Rattle.bound_table.proofs.laws.read_is_of_network.Goals as goal

pub returns : goal.returns
returns c = read_of_network
