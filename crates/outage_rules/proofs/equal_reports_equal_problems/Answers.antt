use Rattle.std.proofs.Common.{ap}
use Rattle.std.proofs.Math.Path.{fun_ext}
use Rattle.outage_rules.proofs.equal_reports_equal_problems.Goals as goal

pub returns : goal.returns
returns c = λ p dark other same. ap (λ f. record p { dark_weight = f }) (fun_ext same)
