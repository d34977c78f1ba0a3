-- The interruptions of a meter as runs: the events are counted from 1, and 0 stands before all of them.
use Rattle.std.specs.Prelude.{◌≡◌, ◌↔◌, ℕ, suc, ◌-◌, ◌<◌, ◌≤◌, Bool, true, false, nat_lt, nat_le, List, [], ◌∷◌, length, map, Contains, AllPairs, Option, Some, None, if◌then◌else◌}
use Rattle.grid_model.specs.Parts.{Parts}
use Rattle.grid_model.specs.declared.history.Event.{Event}
use Rattle.grid_model.specs.declared.history.Stamp.{Stamp}
use Rattle.grid_model.specs.declared.history.Line.{Line}
use Rattle.history_rules.specs.State.{now}
use Rattle.history_rules.specs.Ledger.{is_judged_dark, line_of, lines_of}

-- the first so many of the events, which stand newest first
abbrev pub first_events : ℕ → List Event → List Event
first_events i [] = []
first_events i (e ∷ h) = if nat_le i (length h) then first_events i h else e ∷ h

-- whether the meter is judged dark after the first i events
abbrev pub judged_at : Parts → ℕ → List Event → ℕ → Bool
judged_at g m h i = is_judged_dark g m (first_events i h)

-- the time of the i-th event
abbrev pub time_at : List Event → ℕ → Stamp
time_at h i = record { 0 = now (first_events i h) }

-- the events from one to another
pub record Run : Type 0 where
  pub first : ℕ
  pub last : ℕ

-- of so many events a maximal run after which it is dark: live before the run, dark after each event in it, live after the next one
pub record IsRun (dark : ℕ → Bool) (count : ℕ) (r : Run) : Type 0 where
  pub begins : 1 ≤ r.first
  pub ordered : r.first ≤ r.last
  pub within : r.last ≤ count
  pub before : dark (r.first - 1) ≡ false
  pub inside : (i : ℕ) → r.first ≤ i → i ≤ r.last → dark i ≡ true
  pub after : r.last < count → dark (suc r.last) ≡ false

-- a run ends at the time of the event after its last one, where there is one
abbrev pub end_at : List Event → ℕ → Option Stamp
end_at h last = if nat_lt last (length h) then Some (time_at h (suc last)) else None

-- from the time of its first event to its end
abbrev pub line_of_run : ℕ → List Event → Run → Line
line_of_run m h r = line_of m (time_at h r.first) (end_at h r.last)

-- the lines are those of all maximal runs, one each, in their order
pub record LinesAreRuns (g : Parts) (m : ℕ) (h : List Event) : Type 0 where
  pub runs : List Run
  pub each : (r : Run) → Contains runs r ↔ IsRun (judged_at g m h) (length h) r
  pub in_order : AllPairs (λ a b. a.last < b.first) runs
  pub lines : lines_of g h m ≡ map (line_of_run m h) runs

abbrev pub LedgerLinesAreRuns : Type 0
LedgerLinesAreRuns = (g : Parts) (m : ℕ) (h : List Event) → LinesAreRuns g m h
