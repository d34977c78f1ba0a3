use Rattle.bound_checker.proofs.Passed.{passed, no_parents}
use Rattle.bound_checker.proofs.NothingFails.{valid}
use Rattle.bound_checker.proofs.laws.valid_is_passed.Goals as goal

pub returns : goal.returns
returns c = λ p t cut k. (λ v. (passed p t cut k v, no_parents p t cut k v), λ h. valid p t cut k h.0 h.1)
