use Rattle.history_rules.proofs.LedgerLemmas
use Rattle.history_rules.proofs.laws.ledger_is_timely.Goals as goal

pub returns : goal.returns
returns c = LedgerLemmas.ledger_is_timely
