-- A queue of the ready devices by number.
use Rattle.std.specs.Prelude.{◌≡◌, ◌≢◌, ℕ, ◌<◌, Bool, List, Option, Some, None, length, slice_index_or, if◌then◌else◌}
use Rattle.grid_model.specs.Parts.{Parts}
use Rattle.restore_plan.specs.Restoring.{is_ready}

-- a ready device has time 0, and another one has none
abbrev pub entry_of : Bool → Option ℕ
entry_of ready = if ready then Some 0 else None

-- the queue has the right entry of the device
abbrev pub IsRight : Parts → (ℕ → Bool) → List Bool → List (Option ℕ) → ℕ → Type 0
IsRight g barred closed queue d = slice_index_or queue d None ≡ entry_of (is_ready g barred closed d)

-- the queue has the right entry of each device
pub record IsQueued (g : Parts) (barred : ℕ → Bool) (closed : List Bool) (queue : List (Option ℕ)) : Type 0 where
  pub each : length queue ≡ length g.devices
  pub right : (d : ℕ) → d < length g.devices → IsRight g barred closed queue d

-- and so it has but for one, which was taken out
pub record IsQueuedBut (g : Parts) (barred : ℕ → Bool) (closed : List Bool) (queue : List (Option ℕ)) (but : ℕ) : Type 0 where
  pub each : length queue ≡ length g.devices
  pub right : (d : ℕ) → d < length g.devices → d ≢ but → IsRight g barred closed queue d
