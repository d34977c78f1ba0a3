-- The calls on one meter, which stand newest first, and which of the reports that they tell count.
use Rattle.std.specs.Prelude.{◌≡◌, ◌≢◌, ◌<◌, ◌≤◌, ◌⊎◌, ℕ, ◌+◌, Bool, true, false, ◌&&◌, ◌||◌, not, nat_lt, List, [], ◌∷◌, Option, Some, None, is_some, option_map}
use Rattle.grid_model.specs.Parts.{Parts}
use Rattle.grid_model.specs.Sound.{IsSoundParts}
use Rattle.grid_model.specs.Places.{meter_id, device_id, setting_of}
use Rattle.grid_model.specs.declared.parts.Setting.TheVariants.{LiveHold, Grace}
use Rattle.grid_model.specs.declared.history.Event.{Event}
use Rattle.grid_model.specs.declared.history.Stamp.{Stamp}
use Rattle.grid_model.specs.declared.history.What.{What}
use Rattle.grid_model.specs.declared.history.What.TheVariants as what
use Rattle.history_rules.specs.State.{now}
use Rattle.history_rules.specs.Evidence.{is_call_of, is_signal_of, is_live_signal_of, is_dark_signal_of, last_of, some_later, passing, weight_in, time_in, earliest}
use Rattle.history_rules.specs.Slots.{Slots, IsTimely, slots_after, slots_restored, since_in, came_back_in}
use Rattle.evidence.specs.declared.slot.Sign.{Sign}
use Rattle.evidence.specs.Kept.{Kept, nothing_kept, sign_what, stamp_at, pull_by}

-- what a call on a meter tells
pub data Report : Type 0 where
  Called : Report
  Signalled : Sign → Report
  Restored : Report
  Lapsed : Report

-- a call, and when it was made
pub record Told : Type 0 where
  pub report : Report
  pub time : ℕ

-- what the call for a report does to the slots of meter m
abbrev pub slots_told : ℕ → Report → Stamp → Slots → Slots
slots_told m Called t s = slots_after m (record { time = t; what = what.Call (meter_id m) }) false s
slots_told m (Signalled x) t s = slots_after m (record { time = t; what = sign_what x (meter_id m) }) false s
slots_told m Restored t s = slots_restored t.0 s
slots_told m Lapsed t s = s

-- what is kept of meter m after these calls on it
abbrev pub kept_after : ℕ → List Told → Kept
kept_after m [] = nothing_kept
kept_after m (c ∷ calls) = record { slots = slots_told m c.report (stamp_at c.time) (kept_after m calls).slots; at = c.time }

-- what happened; a restoration brings the meter back, of whichever device it is
abbrev pub what_told : ℕ → Report → What
what_told m Called = what.Call (meter_id m)
what_told m (Signalled x) = sign_what x (meter_id m)
what_told m Restored = what.Restore (device_id 0)
what_told m Lapsed = what.Clock

abbrev pub events_told : ℕ → List Told → List Event
events_told m [] = []
events_told m (c ∷ calls) = record { time = stamp_at c.time; what = what_told m c.report } ∷ events_told m calls

abbrev pub is_restoration : What → Bool
is_restoration (what.Restore d) = true
is_restoration _ = false

-- the last call, where no later live signal and no later restoration answers it
abbrev pub call_that_counts : ℕ → List Event → Option Event
call_that_counts m h =
    passing (λ e. not (some_later (is_call_of m) (λ x before. is_live_signal_of m x.what || is_restoration x.what) h)) (last_of (is_call_of m) h)

-- a restoration after the last signal, for which the grace isn't over
abbrev pub is_hushed : Parts → ℕ → List Event → Bool
is_hushed g m h = some_later (is_signal_of m) (λ x before. is_restoration x.what && nat_lt (now h) (x.time.0 + setting_of g Grace)) h

-- the last signal, where it is a dark one that isn't hushed
abbrev pub dark_that_counts : Parts → ℕ → List Event → Option Event
dark_that_counts g m h = passing (λ e. is_dark_signal_of m e.what && not (is_hushed g m h)) (last_of (is_signal_of m) h)

-- the last signal, where it is a live one whose hold isn't over
abbrev pub live_that_counts : Parts → ℕ → List Event → Option Event
live_that_counts g m h = passing (λ e. is_live_signal_of m e.what && nat_lt (now h) (e.time.0 + setting_of g LiveHold)) (last_of (is_signal_of m) h)

-- the weights that count of what the calls told
abbrev pub dark_told : Parts → ℕ → List Event → ℕ
dark_told g m h = weight_in g (call_that_counts m h) + weight_in g (dark_that_counts g m h)

abbrev pub live_told : Parts → ℕ → List Event → ℕ
live_told g m h = weight_in g (live_that_counts g m h)

-- the earliest time of a dark report that counts
abbrev pub since_told : Parts → ℕ → List Event → Option ℕ
since_told g m h = earliest (time_in (call_that_counts m h)) (time_in (dark_that_counts g m h))

-- a dark signal counts, and a restoration came after it
abbrev pub came_back_told : Parts → ℕ → List Event → Bool
came_back_told g m h = is_some (dark_that_counts g m h) && some_later (is_signal_of m) (λ x before. is_restoration x.what) h

-- the answers are those of what the calls told
pub record CallsTell (g : Parts) (m : ℕ) (k : Kept) (h : List Event) : Type 0 where
  pub dark : (pull_by g m k).dark ≡ dark_told g m h
  pub live : (pull_by g m k).live ≡ live_told g m h
  pub since : option_map stamp_at (since_in g m k.at k.slots) ≡ option_map stamp_at (since_told g m h)
  pub came_back : came_back_in g m k.at k.slots ≡ came_back_told g m h

-- the calls on a meter whose times never fall tell what counts of its reports
abbrev pub EvidenceIsOfItsCalls : Type 0
EvidenceIsOfItsCalls = (g : Parts) (m : ℕ) (calls : List Told) → IsTimely (events_told m calls) →
    CallsTell g m (kept_after m calls) (events_told m calls)

-- the same, and then time alone passed up to this second
abbrev pub lapsed_at : ℕ → List Event → List Event
lapsed_at t h = record { time = stamp_at t; what = what.Clock } ∷ h

pub record TellTheSame (g : Parts) (m : ℕ) (h k : List Event) : Type 0 where
  pub dark : dark_told g m h ≡ dark_told g m k
  pub live : live_told g m h ≡ live_told g m k

-- the next second at which time alone changes a weight: none where it never does
pub record IsNextChange (g : Parts) (m : ℕ) (h : List Event) (due : Option Stamp) : Type 0 where
  pub never : due ≡ None → (t : ℕ) → now h ≤ t → TellTheSame g m (lapsed_at t h) h
  pub before : (end t : ℕ) → due ≡ Some (stamp_at end) → now h ≤ t → t < end → TellTheSame g m (lapsed_at t h) h
  pub later : (end : ℕ) → due ≡ Some (stamp_at end) → now h < end
  pub changed : (end : ℕ) → due ≡ Some (stamp_at end) →
      (dark_told g m (lapsed_at end h) ≢ dark_told g m h) ⊎ (live_told g m (lapsed_at end h) ≢ live_told g m h)

-- a pull is due at the next second at which time alone changes its weights
abbrev pub DueIsOfItsCalls : Type 0
DueIsOfItsCalls = (g : Parts) (m : ℕ) (calls : List Told) → IsSoundParts g → IsTimely (events_told m calls) →
    IsNextChange g m (events_told m calls) (pull_by g m (kept_after m calls)).due
