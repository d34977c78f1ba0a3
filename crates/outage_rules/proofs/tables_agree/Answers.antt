use Rattle.outage_rules.proofs.Agreement.{agree_at}
use Rattle.outage_rules.proofs.tables_agree.Goals as goal

pub returns : goal.returns
returns c = λ p t u sound radial forest other rows others. agree_at p t u sound radial forest other rows others
