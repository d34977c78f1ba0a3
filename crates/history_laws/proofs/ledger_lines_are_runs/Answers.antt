use Rattle.history_laws.proofs.LedgerRuns
use Rattle.history_laws.proofs.ledger_lines_are_runs.Goals as goal

pub returns : goal.returns
returns c = LedgerRuns.lines_are_runs
