use Rattle.std.proofs.Common.{◌≡◌, take, map}
use Rattle.grid_model.proofs.grid.device_names_of.Given as goal

abbrev pub invariant-loop-device : goal.invariant-loop-device
invariant-loop-device l = l.names ≡ map (λ d. d.name) (take l.device-index l.devices)
