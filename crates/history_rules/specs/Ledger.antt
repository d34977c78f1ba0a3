-- The ledger: which meters are judged dark after each event, and the interruptions that follow.
use Rattle.std.specs.Prelude.{◌≤◌, ◌<◌, ◌*◌, ℕ, All, IfSome, Bool, true, false, not, List, [], ◌∷◌, ◌++◌, reverse, length, if◌then◌else◌, Option, Some, None, flat_map}
use Rattle.std.specs.List.{range_with_len}
use Rattle.outage_rules.specs.Network.{is_live}
use Rattle.grid_model.specs.Parts.{Parts}
use Rattle.grid_model.specs.Places.{node_of, meter_id}
use Rattle.grid_model.specs.Sound.{IsSoundParts}
use Rattle.grid_model.specs.declared.history.Event.{Event}
use Rattle.grid_model.specs.declared.history.Stamp.{Stamp}
use Rattle.grid_model.specs.declared.history.Line.{Line}
use Rattle.history_rules.specs.State.{now, network_after}
use Rattle.history_rules.specs.Posed.{IsHistory, diagnosis_after}

-- the diagnosis of the events leaves the meter's node dark
unfoldable pub is_judged_dark : Parts → ℕ → List Event → Bool
is_judged_dark g m h = not (is_live (network_after g h) (diagnosis_after g h) (node_of g m))

abbrev pub line_of : ℕ → Stamp → Option Stamp → Line
line_of m start end = record { meter = meter_id m; start = start; end = end }

-- a line, where the meter is dark after an event and wasn't before it
abbrev pub begun : ℕ → Stamp → Option Stamp → Bool → Bool → List Line
begun m start end true false = line_of m start end ∷ []
begun m start end _ _ = []

-- the lines of a meter, the latest first; `next` is the time of the first event after these that leaves it live
abbrev pub lines_before : ℕ → (List Event → Bool) → Option Stamp → List Event → List Line
lines_before m dark next [] = []
lines_before m dark next (e ∷ h) =
    begun m e.time next (dark (e ∷ h)) (dark h) ++ lines_before m dark (if dark (e ∷ h) then next else Some e.time) h

-- the interruptions of a meter: each maximal run of events after which it is judged dark, but for one that begins before all events
abbrev pub lines_of : Parts → List Event → ℕ → List Line
lines_of g h m = reverse (lines_before m (is_judged_dark g m) None h)

-- all lines, by meter, then by time
unfoldable pub ledger_after : Parts → List Event → List Line
ledger_after g h = flat_map (lines_of g h) (range_with_len 0 (length g.meters))

-- what need be kept of a meter's interruptions: whether it is dark, the start of an open line, and the ended lines, the latest first
pub record Interrupted : Type 0 where
  pub dark : Bool
  pub start : Option Stamp
  pub ended : List Line

abbrev pub line_from : ℕ → Option Stamp → Option Stamp → List Line
line_from m None end = []
line_from m (Some start) end = line_of m start end ∷ []

-- before all events
abbrev pub interrupted_first : Bool → Interrupted
interrupted_first dark = record { dark = dark; start = None; ended = [] }

-- the meter goes dark
abbrev pub gone_dark : Stamp → Interrupted → Interrupted
gone_dark t k = record { dark = true; start = Some t; ended = k.ended }

-- the meter goes live
abbrev pub gone_live : ℕ → Stamp → Interrupted → Interrupted
gone_live m t k = record { dark = false; start = None; ended = line_from m k.start (Some t) ++ k.ended }

-- what an event at a time leaves, by whether the meter is dark after it and was before it
abbrev pub interrupted_by : ℕ → Stamp → Bool → Bool → Interrupted → Interrupted
interrupted_by m t true true k = k
interrupted_by m t true false k = gone_dark t k
interrupted_by m t false true k = gone_live m t k
interrupted_by m t false false k = k

abbrev pub interrupted_of : ℕ → (List Event → Bool) → List Event → Interrupted
interrupted_of m dark [] = interrupted_first (dark [])
interrupted_of m dark (e ∷ h) = interrupted_by m e.time (dark (e ∷ h)) (dark h) (interrupted_of m dark h)

-- the lines of a meter as they are kept, the open one last
abbrev pub kept_lines : ℕ → Interrupted → List Line
kept_lines m k = reverse (line_from m k.start None ++ k.ended)

-- a line of this network that starts by now, and where it ended, did so by now and not before it started
pub record IsLineBy (g : Parts) (now : ℕ) (l : Line) : Type 0 where
  pub meter : l.meter.0 < length g.meters
  pub start : l.start.0 ≤ now
  pub end : IfSome l.end (λ t. (l.start.0 ≤ t.0) × (t.0 ≤ now))

-- so is each line of a history, and no meter has more lines than there are events
pub record IsLedgerOf (g : Parts) (h : List Event) : Type 0 where
  pub lines : All (IsLineBy g (now h)) (ledger_after g h)
  pub each : (m : ℕ) → length (lines_of g h m) ≤ length h
  pub count : length (ledger_after g h) ≤ length g.meters * length h

abbrev pub LedgerIsTimely : Type 0
LedgerIsTimely = (g : Parts) (h : List Event) → IsSoundParts g → IsHistory g h → IsLedgerOf g h
