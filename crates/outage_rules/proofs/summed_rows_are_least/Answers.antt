use Rattle.outage_rules.proofs.SummedRows.{summed_is_least}
use Rattle.outage_rules.proofs.summed_rows_are_least.Goals as goal

pub returns : goal.returns
returns c = λ p row sound order only_dark summed. summed_is_least p row order only_dark sound summed
