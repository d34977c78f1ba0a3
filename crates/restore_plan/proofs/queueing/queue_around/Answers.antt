use Rattle.std.proofs.Common.{◌<◌, length, arith, refl, subst}
use Rattle.radial_forest.proofs.Incident.{number_at, at_within, place_of}
use Rattle.restore_plan.specs.Barred.{flagged}
use Rattle.restore_plan.specs.Queueing.{IsRight}
use Rattle.restore_plan.proofs.Flags.{ends}
use Rattle.restore_plan.proofs.Queue.{each_written, kept_written, right_more}
use Rattle.restore_plan.proofs.queueing.queue_around.Goals as goal

pub queue_device-requires-clause-device : goal.queue_device-requires-clause-device
queue_device-requires-clause-device c = at_within c.args.grid.now c.args.n.0 c.incident-d-items.result.now c.incident-d-items.ensures c.loop-d.d-index c.loop-d-test.true

pub loop-d-preserved : goal.loop-d-preserved
loop-d-preserved c =
    let g = c.args.grid.now in
    let b = flagged c.args.barred.now in
    let closed = c.args.forest.now.closed in
    let xs = c.incident-d-items.result.now in
    let i = c.loop-d.d-index in
    let l : number_at xs i < length g.devices = at_within g c.args.n.0 xs c.incident-d-items.ensures i c.loop-d-test.true in
    let inv = c.loop-d.invariant in
    record {
      each = each_written g b closed c.loop-d.queue c.queue_device.new.queue (number_at xs i) inv.each l c.queue_device.ensures;
      kept = λ d r. kept_written g b closed c.loop-d.queue c.queue_device.new.queue (number_at xs i) inv.each l c.queue_device.ensures d (inv.kept d r);
      right = right_more g b closed c.loop-d.queue c.queue_device.new.queue (number_at xs i) inv.each l c.queue_device.ensures (number_at xs) i refl inv.right;
    }

pub returns-clause-around : goal.returns-clause-around
returns-clause-around c = λ d l t.
    let g = c.args.grid.now in
    let xs = c.incident-d-items.result.now in
    let p = place_of g c.args.n.0 xs c.incident-d-items.ensures d l (ends g c.args.n.0 xs c.incident-d-items.ensures d t) in
    let lp = p.1 in
    subst (IsRight g (flagged c.args.barred.now) c.args.forest.now.closed c.loop-d.queue) p.2 (c.loop-d.invariant.right p.0 (omega arith))
