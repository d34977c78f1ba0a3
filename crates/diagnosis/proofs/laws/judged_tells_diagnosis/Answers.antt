use Rattle.diagnosis.proofs.Agreed.{judged_tells}
use Rattle.diagnosis.proofs.laws.judged_tells_diagnosis.Goals as goal

pub returns : goal.returns
returns c = judged_tells c.fed_rows_are_exact.ensures
