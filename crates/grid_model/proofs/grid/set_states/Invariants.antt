use Rattle.std.proofs.Common.{◌≡◌, take}
use Rattle.grid_model.specs.Started.{started}
use Rattle.grid_model.proofs.grid.set_states.Given as goal

abbrev pub invariant-loop-d : goal.invariant-loop-d
invariant-loop-d l = l.devices ≡ started l.fn.devices (take l.d l.closed)
