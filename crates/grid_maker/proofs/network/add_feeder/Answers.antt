-- The next branch.
use Rattle.std.proofs.Common.{refl, arith}
use Rattle.grid_maker.proofs.Each.{each_begun, each_added}
use Rattle.grid_maker.proofs.network.add_feeder.Goals as goal

pub loop-place-init : goal.loop-place-init
loop-place-init c = each_begun _ 0 _

pub loop-place-preserved : goal.loop-place-preserved
loop-place-preserved c = each_added _ 0 c.loop-place.place c.loop-place.place _ _ _ _ (omega arith) refl c.loop-place.invariant c.in_ok-add_branch.ensures
