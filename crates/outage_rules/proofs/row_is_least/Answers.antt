use Rattle.outage_rules.proofs.Parts
use Rattle.outage_rules.proofs.DarkParts.{dark_row_is}
use Rattle.outage_rules.proofs.row_is_least.Goals as goal

pub returns : goal.returns
returns c = λ p t sound forest rows r l e. (Parts.row_is_least p t sound forest r l e rows, dark_row_is p t sound forest r l e rows)
