-- What the reports of a meter weigh after events, which stand newest first.
use Rattle.std.specs.Prelude.{ℕ, ◌+◌, Bool, false, ◌==◌, ◌&&◌, ◌||◌, not, nat_lt, List, [], ◌∷◌, if◌then◌else◌, min, Option, Some, None, is_some}
use Rattle.grid_model.specs.Parts.{Parts}
use Rattle.grid_model.specs.Places.{node_of, setting_of}
use Rattle.grid_model.specs.declared.parts.Setting.TheVariants as setting
use Rattle.grid_model.specs.declared.history.Event.{Event}
use Rattle.grid_model.specs.declared.history.What.{What}
use Rattle.grid_model.specs.declared.history.What.TheVariants.{Call, Gasp, PingDown, PingUp, Powerup, Restore}
use Rattle.history_rules.specs.State.{now, network_after, is_below}

abbrev pub is_call_of : ℕ → What → Bool
is_call_of m (Call x) = x.0 == m
is_call_of m _ = false

-- a last gasp, or a ping that found the meter down
abbrev pub is_dark_signal_of : ℕ → What → Bool
is_dark_signal_of m (Gasp x) = x.0 == m
is_dark_signal_of m (PingDown x) = x.0 == m
is_dark_signal_of m _ = false

-- a ping that found the meter up, or a power-up message
abbrev pub is_live_signal_of : ℕ → What → Bool
is_live_signal_of m (PingUp x) = x.0 == m
is_live_signal_of m (Powerup x) = x.0 == m
is_live_signal_of m _ = false

abbrev pub is_signal_of : ℕ → What → Bool
is_signal_of m (Gasp x) = x.0 == m
is_signal_of m (PingDown x) = x.0 == m
is_signal_of m (PingUp x) = x.0 == m
is_signal_of m (Powerup x) = x.0 == m
is_signal_of m _ = false

-- what a call or a signal weighs
abbrev pub weight_of : Parts → What → ℕ
weight_of g (Call x) = setting_of g setting.Call
weight_of g (Gasp x) = setting_of g setting.Gasp
weight_of g (PingDown x) = setting_of g setting.PingDown
weight_of g (PingUp x) = setting_of g setting.PingUp
weight_of g (Powerup x) = setting_of g setting.Powerup
weight_of g _ = 0

-- the event restores a device that the meter was below in the events before it
abbrev pub brings_back : Parts → ℕ → What → List Event → Bool
brings_back g m (Restore x) before = is_below (network_after g before) x.0 (node_of g m)
brings_back g m _ before = false

-- the last event of this sort
abbrev pub last_of : (What → Bool) → List Event → Option Event
last_of sort [] = None
last_of sort (e ∷ h) = if sort e.what then Some e else last_of sort h

-- some event after the last one of this sort passes the test, with the events before it
abbrev pub some_later : (What → Bool) → (Event → List Event → Bool) → List Event → Bool
some_later sort test [] = false
some_later sort test (e ∷ h) = if sort e.what then false else (test e h || some_later sort test h)

-- the event, where it passes the test
abbrev pub passing : (Event → Bool) → Option Event → Option Event
passing test None = None
passing test (Some e) = if test e then Some e else None

-- a later restoration, for which the grace isn't over
abbrev pub is_silenced : Parts → List Event → ℕ → Bool
is_silenced g h m =
    some_later (is_signal_of m) (λ e before. brings_back g m e.what before && nat_lt (now h) (e.time.0 + setting_of g setting.Grace)) h

-- a later live signal or restoration
abbrev pub is_answered : Parts → List Event → ℕ → Bool
is_answered g h m = some_later (is_call_of m) (λ e before. is_live_signal_of m e.what || brings_back g m e.what before) h

-- the last call, where nothing later answers it
abbrev pub counted_call : Parts → List Event → ℕ → Option Event
counted_call g h m = passing (λ e. not (is_answered g h m)) (last_of (is_call_of m) h)

-- the last signal, where it is a dark one that isn't silenced
abbrev pub counted_dark_signal : Parts → List Event → ℕ → Option Event
counted_dark_signal g h m = passing (λ e. is_dark_signal_of m e.what && not (is_silenced g h m)) (last_of (is_signal_of m) h)

-- the last signal, where it is a live one whose hold isn't over
abbrev pub counted_live_signal : Parts → List Event → ℕ → Option Event
counted_live_signal g h m =
    passing (λ e. is_live_signal_of m e.what && nat_lt (now h) (e.time.0 + setting_of g setting.LiveHold)) (last_of (is_signal_of m) h)

abbrev pub weight_in : Parts → Option Event → ℕ
weight_in g None = 0
weight_in g (Some e) = weight_of g e.what

abbrev pub dark_weight : Parts → List Event → ℕ → ℕ
dark_weight g h m = weight_in g (counted_call g h m) + weight_in g (counted_dark_signal g h m)

abbrev pub live_weight : Parts → List Event → ℕ → ℕ
live_weight g h m = weight_in g (counted_live_signal g h m)

abbrev pub time_in : Option Event → Option ℕ
time_in None = None
time_in (Some e) = Some e.time.0

abbrev pub earliest : Option ℕ → Option ℕ → Option ℕ
earliest None t = t
earliest (Some s) None = Some s
earliest (Some s) (Some t) = Some (min s t)

-- the earliest time of a counted dark report
abbrev pub dark_since : Parts → List Event → ℕ → Option ℕ
dark_since g h m = earliest (time_in (counted_call g h m)) (time_in (counted_dark_signal g h m))

-- a counted dark signal, and a later restoration
abbrev pub came_back : Parts → List Event → ℕ → Bool
came_back g h m = is_some (counted_dark_signal g h m) && some_later (is_signal_of m) (λ e before. brings_back g m e.what before) h
