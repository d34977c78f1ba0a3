use Rattle.history_laws.proofs.ByMeters
use Rattle.history_laws.proofs.cost_is_by_meters.Goals as goal

pub returns : goal.returns
returns c = ByMeters.cost_is_by_meters
