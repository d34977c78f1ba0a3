-- Where following `above` leads from each outage in some steps.
use Rattle.std.specs.Prelude.{◌≡◌, ◌<◌, ◌+◌, ℕ, List, Option, Some, None, length, unwrap_or, slice_index_or}
use Rattle.grid_model.specs.declared.history.Outage.{Outage}
use Rattle.grid_model.specs.declared.parts.DeviceId.{DeviceId}
use Rattle.history_rules.specs.Crew.{top_within, count_within}
use Rattle.crew_list.specs.Listed.{outage_at}
use Rattle.crew_list.specs.declared.chains.Reach.{Reach}

abbrev pub device_at : List Outage → ℕ → ℕ
device_at all k = (outage_at all k).device.0

abbrev pub no_reach : Reach
no_reach = record { place = 0; above = 0 }

abbrev pub reach_at : List Reach → ℕ → Reach
reach_at reaches k = slice_index_or reaches k no_reach

-- one step from an outage, by the places of devices
abbrev pub step_by : (ℕ → Option ℕ) → ℕ → Option DeviceId → Reach
step_by place own None = record { place = own; above = 0 }
step_by place own (Some d) = record { place = unwrap_or (place d.0) own; above = 1 }

-- as many steps again
abbrev pub further : List Reach → Reach → Reach
further reaches r = record { place = (reach_at reaches r.place).place; above = r.above + (reach_at reaches r.place).above }

-- so many steps from each outage
pub record IsReached (all : List Outage) (steps : ℕ) (reaches : List Reach) : Type 0 where
  pub each : length reaches ≡ length all
  pub within : (k : ℕ) → k < length all → (reach_at reaches k).place < length all
  pub place : (k : ℕ) → k < length all → device_at all (reach_at reaches k).place ≡ top_within all steps (device_at all k)
  pub above : (k : ℕ) → k < length all → (reach_at reaches k).above ≡ count_within all steps (device_at all k)
