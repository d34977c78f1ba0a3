use Rattle.outage_rules.specs.Reference.{table_of}
use Rattle.outage_rules.proofs.Computed.{exact_table}
use Rattle.outage_rules.proofs.Agreement.{agree_at}
use Rattle.outage_rules.proofs.exact_table_is_reference.Goals as goal

pub returns : goal.returns
returns c = λ p t sound radial forest rows.
    let reference = exact_table p sound radial in
    agree_at p t (table_of p) sound radial forest reference.0 rows reference.1
