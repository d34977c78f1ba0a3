use Rattle.std.proofs.Common.{arith}
use Rattle.std.proofs.lemmas.List.{get_or_read}
use Rattle.due_queue.proofs.Reading.{key_fits, read_time, read_none}
use Rattle.due_queue.proofs.DueQueue.time_of.Goals as goal

pub index-requires : goal.index-requires
index-requires c =
    let q = c.self.inside in
    omega (arith, q.place.ok.0, (key_fits q.heap.items q.place.items q.times.items q.count c.args.key c.args.self.now c.self.invariant c.self.view_is c.requires).0)

pub index-requires-then-place-self : goal.index-requires-then-place-self
index-requires-then-place-self c =
    let q = c.self.inside in
    omega (arith, q.times.ok.0, (key_fits q.heap.items q.place.items q.times.items q.count c.args.key c.args.self.now c.self.invariant c.self.view_is c.requires).1)

pub returns-then-place-self : goal.returns-then-place-self
returns-then-place-self c =
    let q = c.self.inside in
    let fits = key_fits q.heap.items q.place.items q.times.items q.count c.args.key c.args.self.now c.self.invariant c.self.view_is c.requires in
    read_time q.heap.items q.place.items q.times.items q.count c.args.key c.index.result.now c.index-then-place-self.result.now c.args.self.now c.self.invariant c.self.view_is c.requires
    (get_or_read q.place.items _ _ fits.0 c.index.ensures 0) c.if-place-self.true (get_or_read q.times.items _ _ fits.1 c.index-then-place-self.ensures 0)

pub returns-else-place-self : goal.returns-else-place-self
returns-else-place-self c =
    let q = c.self.inside in
    let fits = key_fits q.heap.items q.place.items q.times.items q.count c.args.key c.args.self.now c.self.invariant c.self.view_is c.requires in
    read_none q.heap.items q.place.items q.times.items q.count c.args.key c.index.result.now c.args.self.now c.self.invariant c.self.view_is c.requires
    (get_or_read q.place.items _ _ fits.0 c.index.ensures 0) c.if-place-self.false
