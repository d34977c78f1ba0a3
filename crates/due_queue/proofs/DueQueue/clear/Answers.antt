use Rattle.std.proofs.Common.{length, ap, arith}
use Rattle.due_queue.proofs.Reading.{key_fits}
use Rattle.due_queue.proofs.DueQueue.clear.Goals as goal

pub take_out-self-inside-requires-clause-key : goal.take_out-self-inside-requires-clause-key
take_out-self-inside-requires-clause-key c =
    let q = c.self.inside in
    omega (arith, ap length c.deref.ensures.value, (key_fits q.heap.items q.place.items q.times.items q.count c.args.key c.args.self.now c.self.invariant c.self.view_is c.requires).1)
