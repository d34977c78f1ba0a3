-- How a plan is put together.
use Rattle.std.specs.Prelude.{◌≡◌, ℕ, Bool, List, ◌++◌, length}
use Rattle.outage_rules.specs.Network.{IsSoundNetwork, IsRadial}
use Rattle.grid_model.specs.Parts.{Parts}
use Rattle.restore_plan.specs.declared.moves.Move.{Move}
use Rattle.restore_plan.specs.States.{network_at, after}
use Rattle.restore_plan.specs.Restoring.{AreClosings}

-- one state a device, and no loop stands
pub record IsState (g : Parts) (closed : List Bool) : Type 0 where
  pub each : length closed ≡ length g.devices
  pub sound : IsSoundNetwork (network_at g closed)
  pub radial : IsRadial (network_at g closed)

-- all closings were added to the moves, and led to these states
pub record IsRestored (g : Parts) (barred : ℕ → Bool) (closed : List Bool) (moves : List Move) (closed' : List Bool) (moves' : List Move) : Type 0 where
  pub closings : List Move
  pub added : moves' ≡ moves ++ closings
  pub states : closed' ≡ after closed closings
  pub all : AreClosings g barred closed closings

-- some were added: whatever closes the rest goes on with them
pub record IsRestoring (g : Parts) (barred : ℕ → Bool) (closed : List Bool) (moves : List Move) (closed' : List Bool) (moves' : List Move) : Type 0 where
  pub closings : List Move
  pub added : moves' ≡ moves ++ closings
  pub states : closed' ≡ after closed closings
  pub leads : (rest : List Move) → AreClosings g barred closed' rest → AreClosings g barred closed (closings ++ rest)
