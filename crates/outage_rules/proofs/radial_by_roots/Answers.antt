use Rattle.outage_rules.proofs.Roots.{radial_from_roots, radial_to_roots}
use Rattle.outage_rules.proofs.radial_by_roots.Goals as goal

pub returns : goal.returns
returns c = λ g roots sound separate. (radial_from_roots g roots separate, radial_to_roots g roots separate)
