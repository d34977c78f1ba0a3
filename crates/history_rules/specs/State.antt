-- The state and the mark of a device after events, which stand newest first.
use Rattle.std.specs.Prelude.{ℕ, ◌+◌, Bool, true, false, ◌==◌, ◌&&◌, not, nat_lt, List, [], ◌∷◌, if◌then◌else◌}
use Rattle.outage_rules.specs.Network.{Network, is_live, only, nothing}
use Rattle.grid_model.specs.Parts.{Parts}
use Rattle.grid_model.specs.Places.{device_at, setting_of}
use Rattle.grid_model.specs.Network.{network_in}
use Rattle.grid_model.specs.declared.parts.Setting.TheVariants.{OkHold}
use Rattle.grid_model.specs.declared.history.Event.{Event}
use Rattle.grid_model.specs.declared.history.What.{What}
use Rattle.grid_model.specs.declared.history.What.TheVariants.{Confirm, Restore, Order}
use Rattle.grid_model.specs.declared.history.Want.{Want}
use Rattle.grid_model.specs.declared.history.Want.TheVariants as want
use Rattle.grid_model.specs.declared.history.Confirmed.{Confirmed}
use Rattle.grid_model.specs.declared.history.Confirmed.TheVariants as confirmed
use Rattle.grid_model.specs.declared.history.Mark.{Mark}
use Rattle.grid_model.specs.declared.history.Mark.TheVariants as mark

-- the time of the last event, and 0 where there is none
abbrev pub now : List Event → ℕ
now [] = 0
now (e ∷ h) = e.time.0

abbrev pub is_wanted_closed : Want → Bool
is_wanted_closed want.Opened = false
is_wanted_closed want.Closed = true

-- the state of device d after an event, by its state before it
abbrev pub closed_by : What → ℕ → Bool → Bool
closed_by (Order x w) d before = if x.0 == d then is_wanted_closed w else before
closed_by _ d before = before

-- a device is closed by its last order, else by its starting state
abbrev pub is_closed : Parts → List Event → ℕ → Bool
is_closed g [] d = (device_at g d).starts_closed
is_closed g (e ∷ h) d = closed_by e.what d (is_closed g h d)

-- a mark that says the device is fine stands while it holds
abbrev pub fine_while : Bool → Mark
fine_while true = mark.Fine
fine_while false = mark.Nothing

abbrev pub mark_said : Confirmed → Bool → Mark
mark_said confirmed.Opened holds = mark.Opened
mark_said confirmed.Fine holds = fine_while holds
mark_said confirmed.Cleared holds = mark.Nothing

-- the mark of device d after an event, by its mark before it; `holds` says whether the hold of a mark that the event leaves isn't over
abbrev pub mark_by : What → Bool → ℕ → Mark → Mark
mark_by (Order x w) holds d before = if x.0 == d then mark.Nothing else before
mark_by (Confirm x c) holds d before = if x.0 == d then mark_said c holds else before
mark_by (Restore x) holds d before = if x.0 == d then fine_while holds else before
mark_by _ holds d before = before

-- the mark at a time t: that of the last order, confirmation or restoration of the device
abbrev pub mark_at : Parts → ℕ → List Event → ℕ → Mark
mark_at g t [] d = mark.Nothing
mark_at g t (e ∷ h) d = mark_by e.what (nat_lt t (e.time.0 + setting_of g OkHold)) d (mark_at g t h d)

-- and at the time of the last event
abbrev pub mark_of : Parts → List Event → ℕ → Mark
mark_of g h d = mark_at g (now h) h d

-- the network that the events leave
abbrev pub network_after : Parts → List Event → Network
network_after g h = network_in g (is_closed g h)

abbrev pub is_fed : Network → ℕ → Bool
is_fed net n = is_live net nothing n

-- the node is fed, and dark without the device
abbrev pub is_below : Network → ℕ → ℕ → Bool
is_below net d n = is_fed net n && not (is_live net (only d) n)
