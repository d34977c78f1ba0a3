use Rattle.std.proofs.Common.{◌≡◌, ◌++◌, ◌-◌}
use Rattle.grid_maker.specs.NetworkText.{each, line_row}
use Rattle.grid_maker.proofs.network.add_main.Given as goal

abbrev pub invariant-loop-place : goal.invariant-loop-place
invariant-loop-place l = l.text.items ≡ l.initial.text.items ++ each (line_row l.feeder) 1 (l.place - 1)
