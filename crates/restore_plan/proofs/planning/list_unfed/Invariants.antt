use Rattle.std.proofs.Common.{◌≡◌, map}
use Rattle.std.specs.Prelude.{not}
use Rattle.grid_model.specs.Groups.{places_that}
use Rattle.grid_model.specs.Places.{node_of}
use Rattle.restore_plan.specs.States.{is_fed}
use Rattle.restore_plan.proofs.planning.list_unfed.Given as goal

abbrev pub invariant-loop-m : goal.invariant-loop-m
invariant-loop-m l = map (λ m. m.0) l.unfed.items ≡ places_that (λ m. not (is_fed l.grid l.forest.closed (node_of l.grid m))) l.m
