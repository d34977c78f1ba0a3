use Rattle.restore_plan.proofs.Closing.{one_list_of_moves}
use Rattle.restore_plan.proofs.laws.one_plan.Goals as goal

pub returns : goal.returns
returns c = one_list_of_moves
