use Rattle.bound_checker.proofs.TightTables.{tight_valid}
use Rattle.bound_checker.proofs.laws.tight_is_valid.Goals as goal

pub returns : goal.returns
returns c = λ p sound radial. tight_valid p sound (c.tight_passes.ensures p sound radial)
