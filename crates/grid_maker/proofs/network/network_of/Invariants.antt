use Rattle.std.proofs.Common.{◌≡◌, ◌++◌}
use Rattle.grid_maker.specs.NetworkText.{each, feeder_rows, tie_row}
use Rattle.grid_maker.proofs.network.network_of.Given as goal

abbrev pub invariant-feeders : goal.invariant-feeders
invariant-feeders l = l.text.items ≡ l.initial.text.items ++ each feeder_rows 0 l.feeder

abbrev pub invariant-ties : goal.invariant-ties
invariant-ties l = l.text.items ≡ l.initial.text.items ++ each tie_row 0 l.feeder
