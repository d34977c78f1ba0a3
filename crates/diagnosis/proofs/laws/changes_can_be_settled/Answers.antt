use Rattle.diagnosis.proofs.Changed.{changes_settle}
use Rattle.diagnosis.proofs.laws.changes_can_be_settled.Goals as goal

pub returns : goal.returns
returns c = changes_settle
