-- What events leave of what is kept of a meter.
use Rattle.std.specs.Prelude.{◌≡◌, ℕ, true, false}
use Rattle.grid_model.specs.Parts.{Parts}
use Rattle.grid_model.specs.declared.parts.DeviceId.{DeviceId}
use Rattle.grid_model.specs.declared.history.Event.{Event}
use Rattle.grid_model.specs.declared.history.What.TheVariants.{Restore}
use Rattle.history_rules.specs.Evidence.{is_call_of, is_signal_of}
use Rattle.history_rules.specs.Slots.{Slots, slots_after, slots_restored}

-- a restoration that brings a meter back leaves the slots restored
abbrev pub RestoredIsARestore : Type 0
RestoredIsARestore = (g : Parts) (m : ℕ) (t : ℕ) (d : DeviceId) (s : Slots) →
    slots_after m (record { time = record { 0 = t }; what = Restore d }) true s ≡ slots_restored t s

-- an event that is no call and no signal of a meter, and doesn't bring it back, leaves its slots
abbrev pub OthersKeepSlots : Type 0
OthersKeepSlots = (m : ℕ) (e : Event) (s : Slots) → is_call_of m e.what ≡ false → is_signal_of m e.what ≡ false → slots_after m e false s ≡ s
