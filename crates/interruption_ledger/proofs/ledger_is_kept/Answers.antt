use Rattle.interruption_ledger.proofs.Keeping.{is_kept}
use Rattle.interruption_ledger.proofs.ledger_is_kept.Goals as goal

pub returns : goal.returns
returns c = is_kept
