-- Two least numbers of doublings are equal.
use Rattle.fault_weights.proofs.Doublings.{one_least}
use Rattle.fault_weights.proofs.one_least_doubling.Goals as goal

pub returns : goal.returns
returns c = one_least
