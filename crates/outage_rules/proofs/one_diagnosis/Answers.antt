use Rattle.outage_rules.proofs.Exists.{some_diagnosis, greedy_opens}
use Rattle.outage_rules.specs.Reference.{greedy}
use Rattle.outage_rules.proofs.Cautious.{only_one}
use Rattle.outage_rules.proofs.one_diagnosis.Goals as goal

pub returns : goal.returns
returns c = λ p t sound forest rows. (some_diagnosis p t sound forest rows, only_one p t sound forest rows (greedy p t) (greedy_opens p t sound forest))
