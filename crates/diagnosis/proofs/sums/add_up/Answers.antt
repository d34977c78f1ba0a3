use Rattle.std.proofs.Common.{◌-◌, sym, ◌∙◌, arith}
use Rattle.diagnosis.proofs.Summing.{weights_added, source_added, node_added, all_added}
use Rattle.diagnosis.proofs.sums.add_up.Goals as goal

pub loop-k-init : goal.loop-k-init
loop-k-init c = weights_added c.args.grid.now c.args.rows.now c.args.traversal.now c.requires.sound c.requires.traversed c.requires.each c.requires.bound _ c.order-order.ensures

pub loop-k-preserved : goal.loop-k-preserved
loop-k-preserved c =
    source_added c.args.grid.now c.args.rows.now c.args.traversal.now c.requires.sound c.requires.traversed c.requires.each c.requires.bound
    c.loop-k.rows c.order-order.result.now (c.loop-k.k - 1) c.loop-k.k c.order-order.ensures (omega arith) (omega arith) c.loop-k.invariant
    (sym c.in_default.is ∙ c.device_above.ensures)

pub loop-k-preserved-in-Some : goal.loop-k-preserved-in-Some
loop-k-preserved-in-Some c =
    node_added c.args.grid.now c.args.rows.now c.args.traversal.now c.requires.sound c.requires.traversed c.requires.each c.requires.bound
    c.loop-k.rows c.order-order.result.now (c.loop-k.k - 1) c.loop-k.k c.order-order.ensures (omega arith) (omega arith) c.loop-k.invariant
    c.in-Some.above c.min.result (omega arith) (sym c.in-Some.is ∙ c.device_above.ensures) c.min.ensures

pub returns : goal.returns
returns c =
    all_added c.args.grid.now c.args.rows.now c.args.traversal.now c.requires.sound c.requires.traversed c.requires.each c.requires.bound c.loop-k.rows c.loop-k.k (omega arith) c.loop-k.invariant
