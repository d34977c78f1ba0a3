-- The next line.
use Rattle.std.proofs.Common.{◌-◌, arith}
use Rattle.grid_maker.proofs.Each.{each_begun, each_added}
use Rattle.grid_maker.proofs.network.add_main.Goals as goal

pub loop-place-init : goal.loop-place-init
loop-place-init c = each_begun _ 1 _

pub loop-place-preserved : goal.loop-place-preserved
loop-place-preserved c =
    each_added _ 1 (c.loop-place.place - 1) c.loop-place.place _ _ _ _ (omega arith) (omega arith) c.loop-place.invariant c.in_ok-add_line.ensures
