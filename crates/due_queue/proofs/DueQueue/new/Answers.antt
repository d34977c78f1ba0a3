use Rattle.std.proofs.Common.{arith}
use Rattle.due_queue.proofs.Reading.{starting, starting_entries}
use Rattle.due_queue.proofs.DueQueue.new.Goals as goal

pub invariant_of-result : goal.invariant_of-result
invariant_of-result c =
    starting c.in_ok-numbers.field-0.items c.in_ok-numbers-2.field-0.items c.in_ok-vec.field-0.items c.args.capacity
    c.in_ok-numbers.ensures c.in_ok-numbers-2.ensures (c.in_ok-vec.ensures.items_if_clones_equal (λ y e. e)) (omega arith)

pub returns : goal.returns
returns c =
    starting_entries c.in_ok-numbers-2.field-0.items c.in_ok-vec.field-0.items c.args.capacity
    c.in_ok-numbers-2.ensures (c.in_ok-vec.ensures.items_if_clones_equal (λ y e. e))
