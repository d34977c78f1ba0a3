use Rattle.std.proofs.Common.{◌≡◌, take, map}
use Rattle.grid_model.proofs.grid.meter_names_of.Given as goal

abbrev pub invariant-loop-meter : goal.invariant-loop-meter
invariant-loop-meter l = l.names ≡ map (λ d. d.name) (take l.meter-index l.meters)
