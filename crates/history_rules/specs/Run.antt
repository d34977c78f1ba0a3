-- The run over the lines of an event text: each is skipped, or refused by the first rule that fits, or applied.
use Rattle.std.specs.Prelude.{ℕ, ◌==◌, not, nat_le, List, [], ◌∷◌, zero, suc, filter, take, length, if◌then◌else◌, Option, Some, None}
use Rattle.std.specs.List.{list_any}
use Rattle.grid_model.specs.Parts.{Parts}
use Rattle.grid_model.specs.declared.history.Event.{Event}
use Rattle.grid_model.specs.declared.history.Refusal.{Refusal}
use Rattle.event_rules.specs.declared.read_rule.ReadRule.{ReadRule}
use Rattle.event_rules.specs.Lines.{lines, is_skipped}
use Rattle.event_rules.specs.EventLines.{EventReading, IsSkipped, IsEvent, IsRefused, event_reading}
use Rattle.history_rules.specs.Posed.{refusal_of}

-- a line is refused as it is read, or because its event may not follow the ones before it
pub data LineRule : Type 0 where
  Unread : (rule : ReadRule) → LineRule
  Unapplied : (rule : Refusal) → LineRule

-- what becomes of a line
pub data Outcome : Type 0 where
  Skips : Outcome
  Refuses : (rule : LineRule) → Outcome
  Applies : (event : Event) → Outcome

abbrev pub outcome_by : Event → Option Refusal → Outcome
outcome_by e None = Applies e
outcome_by e (Some rule) = Refuses (Unapplied rule)

abbrev pub outcome_after : Parts → List Event → EventReading → Outcome
outcome_after g h IsSkipped = Skips
outcome_after g h (IsRefused rule) = Refuses (Unread rule)
outcome_after g h (IsEvent e) = outcome_by e (refusal_of g h e)

-- what becomes of a line after these events
unfoldable pub outcome_of : Parts → List Event → List ℕ → Outcome
outcome_of g h line = outcome_after g h (event_reading g line)

-- the events after a line: a skipped line and a refused one leave them as they were
abbrev pub history_by : List Event → Outcome → List Event
history_by h Skips = h
history_by h (Refuses rule) = h
history_by h (Applies e) = e ∷ h

-- the events after these lines
unfoldable pub history_in : Parts → List Event → List (List ℕ) → List Event
history_in g h [] = h
history_in g h (line ∷ rest) = history_in g (history_by h (outcome_of g h line)) rest

-- the events of a text
abbrev pub history_of : Parts → List ℕ → List Event
history_of g text = history_in g [] (lines text)

-- a text up to its last LF
unfoldable pub up_to_last_end : List ℕ → List ℕ
up_to_last_end [] = []
up_to_last_end (b ∷ rest) = if list_any (λ c. c == 10) (b ∷ rest) then b ∷ up_to_last_end rest else []

-- the lines that an LF ends
abbrev pub ended_lines : List ℕ → List (List ℕ)
ended_lines text = lines (up_to_last_end text)

-- the lines that count: those that aren't skipped
abbrev pub counted : List (List ℕ) → List (List ℕ)
counted lines = filter (λ line. not (is_skipped line)) lines

-- the lines before the one that counts after so many that count
unfoldable pub before_counted : ℕ → List (List ℕ) → List (List ℕ)
before_counted most [] = []
before_counted zero (line ∷ rest) = if is_skipped line then line ∷ before_counted zero rest else []
before_counted (suc most) (line ∷ rest) = line ∷ before_counted (if is_skipped line then suc most else most) rest

-- the lines that end within the first bytes of a file, with the file's end where it is among them
abbrev pub lines_within : ℕ → List ℕ → List (List ℕ)
lines_within most bytes = if nat_le (length bytes) most then lines bytes else ended_lines (take most bytes)
