-- The next feeder, and the next tie.
use Rattle.std.proofs.Common.{refl, arith}
use Rattle.grid_maker.proofs.Each.{each_begun, each_added}
use Rattle.grid_maker.proofs.network.network_of.Goals as goal

pub feeders-init : goal.feeders-init
feeders-init c = each_begun _ 0 _

pub feeders-preserved : goal.feeders-preserved
feeders-preserved c = each_added _ 0 c.feeders.feeder c.feeders.feeder _ _ _ _ (omega arith) refl c.feeders.invariant c.in_ok-add_feeder.ensures

pub ties-init : goal.ties-init
ties-init c = each_begun _ 0 _

pub ties-preserved : goal.ties-preserved
ties-preserved c = each_added _ 0 c.ties.feeder c.ties.feeder _ _ _ _ (omega arith) refl c.ties.invariant c.in_ok-add_tie.ensures
