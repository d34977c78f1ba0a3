use Rattle.std.proofs.Common.{◌<◌, length, arith, refl}
use Rattle.restore_plan.specs.Barred.{flagged}
use Rattle.restore_plan.proofs.Queue.{each_written, right_more}
use Rattle.restore_plan.proofs.queueing.queue_all.Goals as goal

pub loop-d-preserved : goal.loop-d-preserved
loop-d-preserved c =
    let g = c.args.grid.now in
    let b = flagged c.args.barred.now in
    let closed = c.args.forest.now.closed in
    let l : c.loop-d.d < length g.devices = let n = c.devices-d-end.ensures.count in let t = c.loop-d-test.true in omega arith in
    let inv = c.loop-d.invariant in
    record {
      each = each_written g b closed c.loop-d.queue c.queue_device.new.queue c.loop-d.d inv.each l c.queue_device.ensures;
      right = right_more g b closed c.loop-d.queue c.queue_device.new.queue c.loop-d.d inv.each l c.queue_device.ensures (λ x. x) c.loop-d.d refl inv.right;
    }
