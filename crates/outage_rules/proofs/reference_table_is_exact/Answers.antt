use Rattle.outage_rules.proofs.Computed.{exact_table}
use Rattle.outage_rules.proofs.reference_table_is_exact.Goals as goal

pub returns : goal.returns
returns c = exact_table
