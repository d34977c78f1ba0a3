use Rattle.std.proofs.Common.{◌≡◌, ◌++◌}
use Rattle.grid_maker.specs.NetworkText.{each, service_rows}
use Rattle.grid_maker.proofs.network.add_branch.Given as goal

abbrev pub invariant-loop-number : goal.invariant-loop-number
invariant-loop-number l = l.text.items ≡ l.initial.text.items ++ each (service_rows l.feeder l.place) 0 l.number
