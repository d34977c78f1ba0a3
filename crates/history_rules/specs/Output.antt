-- The output of a replay.
use Rattle.std.specs.Prelude.{ℕ, ◌+◌, ◌==◌, ◌&&◌, not, List, [], ◌∷◌, ◌++◌, length, flat_map, if◌then◌else◌, codes, decimal}
use Rattle.std.specs.List.{range_with_len}
use Rattle.outage_rules.specs.Network.{Cut}
use Rattle.grid_model.specs.Parts.{Parts}
use Rattle.grid_model.specs.Places.{device_at}
use Rattle.grid_model.specs.declared.history.Event.{Event}
use Rattle.grid_model.specs.declared.history.Refusal.{Refusal}
use Rattle.grid_model.specs.declared.history.Refusal.TheVariants.{Backwards, NotClosed, Loop}
use Rattle.grid_model.specs.declared.history.Period.{Period}
use Rattle.event_rules.specs.declared.read_rule.ReadRule.{ReadRule}
use Rattle.event_rules.specs.declared.read_rule.ReadRule.TheVariants.{TooLong, BadFields, BadWord, BadTime, BadName, UnknownMeter, UnknownDevice}
use Rattle.event_rules.specs.Lines.{lines}
use Rattle.event_rules.specs.Rows.{row}
use Rattle.history_rules.specs.Posed.{least_after, diagnosis_after}
use Rattle.history_rules.specs.Run.{LineRule, Unread, Unapplied, Outcome, Skips, Refuses, Applies, outcome_of, history_by, history_of}
use Rattle.history_rules.specs.Report.{report_text, refused_in}

abbrev pub read_rule_word : ReadRule → List ℕ
read_rule_word TooLong = codes "TooLong"
read_rule_word BadFields = codes "BadFields"
read_rule_word BadWord = codes "BadWord"
read_rule_word BadTime = codes "BadTime"
read_rule_word BadName = codes "BadName"
read_rule_word UnknownMeter = codes "UnknownMeter"
read_rule_word UnknownDevice = codes "UnknownDevice"

abbrev pub refusal_word : Refusal → List ℕ
refusal_word Backwards = codes "Backwards"
refusal_word NotClosed = codes "NotClosed"
refusal_word Loop = codes "Loop"

abbrev pub rule_word : LineRule → List ℕ
rule_word (Unread rule) = read_rule_word rule
rule_word (Unapplied rule) = refusal_word rule

-- the least cost of a line, where it isn't the one before
abbrev pub cost_row : ℕ → ℕ → ℕ → List ℕ
cost_row line before after = if before == after then [] else row (codes "cost" ∷ decimal line ∷ decimal after ∷ [])

-- a row with this word for each device that the first set has and the second hasn't, by number
unfoldable pub change_rows : Parts → List ℕ → ℕ → Cut → Cut → List ℕ
change_rows g word line has hasnt =
    flat_map (λ d. if has d && not (hasnt d) then row (word ∷ decimal line ∷ (device_at g d).name ∷ []) else []) (range_with_len 0 (length g.devices))

-- the devices that leave the diagnosis and those that enter it, and the least cost
abbrev pub changes : Parts → ℕ → List Event → List Event → List ℕ
changes g line before after =
    change_rows g (codes "leaves") line (diagnosis_after g before) (diagnosis_after g after)
    ++ change_rows g (codes "enters") line (diagnosis_after g after) (diagnosis_after g before)
    ++ cost_row line (least_after g before) (least_after g after)

abbrev pub refused_row : ℕ → LineRule → List ℕ
refused_row line rule = row (codes "refused" ∷ decimal line ∷ rule_word rule ∷ [])

-- what is printed of a line after these events
abbrev pub entry : Parts → ℕ → List Event → Outcome → List ℕ
entry g line h Skips = []
entry g line h (Refuses rule) = refused_row line rule
entry g line h (Applies e) = changes g line h (e ∷ h)

-- what is printed of the lines from a number on
unfoldable pub entries : Parts → ℕ → List Event → List (List ℕ) → List ℕ
entries g number h [] = []
entries g number h (line ∷ rest) =
    entry g number h (outcome_of g h line) ++ entries g (number + 1) (history_by h (outcome_of g h line)) rest

-- all that a replay of an event text prints, but for the bounds: the entries, and then the report with the indices of a period
unfoldable pub replay_text : Parts → Period → List ℕ → List ℕ
replay_text g period events = entries g 1 [] (lines events) ++ report_text g period (refused_in g [] (lines events)) (history_of g events)
