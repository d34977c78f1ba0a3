-- The weight is 10 times the least number of doublings.
use Rattle.fault_weights.proofs.Doublings.{has_least}
use Rattle.fault_weights.proofs.rate_weight_is_least.Goals as goal

pub returns : goal.returns
returns c = has_least
