-- The next transformer.
use Rattle.std.proofs.Common.{refl, arith}
use Rattle.grid_maker.proofs.Each.{each_begun, each_added}
use Rattle.grid_maker.proofs.network.add_branch.Goals as goal

pub loop-number-init : goal.loop-number-init
loop-number-init c = each_begun _ 0 _

pub loop-number-preserved : goal.loop-number-preserved
loop-number-preserved c = each_added _ 0 c.loop-number.number c.loop-number.number _ _ _ _ (omega arith) refl c.loop-number.invariant c.in_ok-add_service.ensures
