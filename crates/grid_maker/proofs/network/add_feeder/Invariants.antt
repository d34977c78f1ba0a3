use Rattle.std.proofs.Common.{◌≡◌, ◌++◌}
use Rattle.grid_maker.specs.NetworkText.{each, branch_rows}
use Rattle.grid_maker.proofs.network.add_feeder.Given as goal

abbrev pub invariant-loop-place : goal.invariant-loop-place
invariant-loop-place l = l.text.items ≡ l.initial.text.items ++ each (branch_rows l.feeder) 0 l.place
