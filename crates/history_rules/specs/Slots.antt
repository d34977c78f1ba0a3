-- What need be kept of a meter's reports, and what it tells at a time.
use Rattle.std.specs.Prelude.{ℕ, ◌+◌, ◌≤◌, ⊤, Bool, ◌&&◌, ◌||◌, not, nat_lt, List, [], ◌∷◌, if◌then◌else◌, Option, Some, None, is_some, false}
use Rattle.grid_model.specs.Parts.{Parts}
use Rattle.grid_model.specs.Places.{setting_of}
use Rattle.grid_model.specs.declared.parts.Setting.TheVariants.{LiveHold, Grace}
use Rattle.grid_model.specs.declared.history.Event.{Event}
use Rattle.history_rules.specs.State.{now}
use Rattle.history_rules.specs.Evidence.{is_call_of, is_signal_of, is_live_signal_of, is_dark_signal_of, brings_back, passing, weight_in, time_in, earliest}

-- times never fall
abbrev pub IsTimely : List Event → Type 0
IsTimely [] = ⊤
IsTimely (e ∷ h) = (now h ≤ e.time.0) × IsTimely h

-- the last signal, the time of the last restoration after it, and the last call that nothing answered
pub record Slots : Type 0 where
  pub signal : Option Event
  pub back : Option ℕ
  pub call : Option Event

abbrev pub no_slots : Slots
no_slots = record { signal = None; back = None; call = None }

-- after an event of which one knows whether it brings the meter back
abbrev pub slots_after : ℕ → Event → Bool → Slots → Slots
slots_after m e brought s = record {
  signal = if is_signal_of m e.what then Some e else s.signal;
  back = if is_signal_of m e.what then None else (if brought then Some e.time.0 else s.back);
  call = if is_call_of m e.what then Some e else (if is_live_signal_of m e.what || brought then None else s.call);
}

-- after a restoration at this time that brings the meter back
abbrev pub slots_restored : ℕ → Slots → Slots
slots_restored t s = record { signal = s.signal; back = Some t; call = None }

-- after events
abbrev pub slots_of : Parts → ℕ → List Event → Slots
slots_of g m [] = no_slots
slots_of g m (e ∷ h) = slots_after m e (brings_back g m e.what h) (slots_of g m h)

-- at time t the grace of a restoration isn't over
abbrev pub is_quiet : ℕ → ℕ → Option ℕ → Bool
is_quiet t grace None = false
is_quiet t grace (Some s) = nat_lt t (s + grace)

-- the dark signal that counts at time t
abbrev pub dark_signal_in : Parts → ℕ → ℕ → Slots → Option Event
dark_signal_in g m t s = passing (λ e. is_dark_signal_of m e.what && not (is_quiet t (setting_of g Grace) s.back)) s.signal

-- the live signal that counts at time t
abbrev pub live_signal_in : Parts → ℕ → ℕ → Slots → Option Event
live_signal_in g m t s = passing (λ e. is_live_signal_of m e.what && nat_lt t (e.time.0 + setting_of g LiveHold)) s.signal

-- what the slots weigh at time t
abbrev pub dark_in : Parts → ℕ → ℕ → Slots → ℕ
dark_in g m t s = weight_in g s.call + weight_in g (dark_signal_in g m t s)

abbrev pub live_in : Parts → ℕ → ℕ → Slots → ℕ
live_in g m t s = weight_in g (live_signal_in g m t s)

-- the end of a hold that isn't over at time t
abbrev pub end_after : ℕ → ℕ → Option ℕ
end_after t end = if nat_lt t end then Some end else None

-- the end of the grace of a restoration
abbrev pub grace_after : Parts → ℕ → Option ℕ → Option ℕ
grace_after g t None = None
grace_after g t (Some s) = end_after t (s + setting_of g Grace)

-- a silenced dark signal comes back, and a live signal lapses
abbrev pub due_of_signal : Parts → ℕ → ℕ → Option ℕ → Option Event → Option ℕ
due_of_signal g m t back None = None
due_of_signal g m t back (Some e) =
    if is_live_signal_of m e.what then end_after t (e.time.0 + setting_of g LiveHold)
    else (if is_dark_signal_of m e.what then grace_after g t back else None)

-- the next time after t at which what the slots weigh changes by itself
abbrev pub due_in : Parts → ℕ → ℕ → Slots → Option ℕ
due_in g m t s = due_of_signal g m t s.back s.signal

-- the earliest time of a dark report that counts at time t
abbrev pub since_in : Parts → ℕ → ℕ → Slots → Option ℕ
since_in g m t s = earliest (time_in s.call) (time_in (dark_signal_in g m t s))

-- a dark signal counts at time t, and a restoration came after it
abbrev pub came_back_in : Parts → ℕ → ℕ → Slots → Bool
came_back_in g m t s = is_some (dark_signal_in g m t s) && is_some s.back
