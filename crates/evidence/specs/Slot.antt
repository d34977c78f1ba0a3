-- What a contract sees of what is kept of one meter.
use Rattle.std.specs.Prelude.{ℕ, ◌<◌, ◌≤◌, List, [], slice_index, Option, option_map, IfSome}
use Rattle.grid_model.specs.Parts.{Parts}
use Rattle.grid_model.specs.Places.{meter_id}
use Rattle.grid_model.specs.declared.history.Stamp.{Stamp}
use Rattle.grid_model.specs.declared.history.Event.{Event}
use Rattle.grid_model.specs.declared.history.What.TheVariants as what
use Rattle.history_rules.specs.Slots.{Slots}
use Rattle.history_rules.specs.StampTexts.{last_second}
use Rattle.evidence.specs.Kept.{Kept, sign_what}
use Rattle.evidence.specs.declared.slot.Slot.{Slot}
use Rattle.evidence.specs.declared.slot.Signal.{Signal}

-- a signal as an event of meter m
abbrev pub event_in : ℕ → Signal → Event
event_in m s = record { time = s.time; what = sign_what s.sign (meter_id m) }

-- a call at this time as an event of meter m
abbrev pub call_in : ℕ → Stamp → Event
call_in m t = record { time = t; what = what.Call (meter_id m) }

abbrev pub seconds : Option Stamp → Option ℕ
seconds t = option_map (λ s. s.0) t

abbrev pub slots_in : ℕ → Slot → Slots
slots_in m s = record { signal = option_map (event_in m) s.signal; back = seconds s.back; call = option_map (call_in m) s.call }

abbrev pub kept_in : ℕ → Slot → Kept
kept_in m s = record { slots = slots_in m s; at = s.at.0 }

-- a network of which only the settings are known
abbrev pub with_settings : List ℕ → Parts
with_settings settings = record { nodes = []; sources = []; devices = []; meters = []; settings = settings }

-- the times that holds are counted from are before the year 10000
pub record IsPast (s : Slot) : Type 0 where
  pub signal : IfSome s.signal (λ x. x.time.0 ≤ last_second)
  pub back : IfSome s.back (λ t. t.0 ≤ last_second)

-- the eight settings are at most ten millions
abbrev pub AreModest : List ℕ → Type 0
AreModest settings = (k : ℕ) → k < 8 → slice_index settings k ≤ 10000000
