use Rattle.bound_checker.proofs.Passed.{valid_certifies}
use Rattle.bound_checker.proofs.laws.valid_is_certified.Goals as goal

pub returns : goal.returns
returns c = valid_certifies
