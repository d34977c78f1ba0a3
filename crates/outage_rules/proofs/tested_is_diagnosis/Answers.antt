use Rattle.outage_rules.specs.Reference.{table_of}
use Rattle.outage_rules.proofs.Tested.{tested}
use Rattle.outage_rules.proofs.tested_is_diagnosis.Goals as goal

pub returns : goal.returns
returns c = λ p sources passes. tested p (table_of p) sources passes
