use Rattle.std.proofs.Common.{◌≡◌, take}
use Rattle.grid_reader.proofs.start.names_in_order.Given as goal

abbrev pub invariant-loop-number : goal.invariant-loop-number
invariant-loop-number l = l.all.items ≡ take l.number l.names
