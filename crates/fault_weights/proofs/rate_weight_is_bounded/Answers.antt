-- The weight of a rate from 1 to 1,000,000.
use Rattle.fault_weights.proofs.Doublings.{bounded}
use Rattle.fault_weights.proofs.rate_weight_is_bounded.Goals as goal

pub returns : goal.returns
returns c = bounded
