-- The report of a replay.
use Rattle.std.specs.Prelude.{◌≡◌, ℕ, ◌+◌, ◌==◌, Bool, true, false, List, [], ◌∷◌, ◌++◌, length, if◌then◌else◌, Option, Some, None, flat_map, codes, decimal}
use Rattle.std.specs.List.{range_with_len}
use Rattle.grid_model.specs.Parts.{Parts}
use Rattle.grid_model.specs.Places.{device_at, meter_at}
use Rattle.grid_model.specs.declared.history.Event.{Event}
use Rattle.grid_model.specs.declared.history.Line.{Line}
use Rattle.grid_model.specs.declared.history.Outage.{Outage}
use Rattle.grid_model.specs.declared.history.Period.{Period}
use Rattle.grid_model.specs.declared.history.Stamp.{Stamp}
use Rattle.event_rules.specs.Rows.{row}
use Rattle.event_rules.specs.Fractions.{Ratio, ratio_words}
use Rattle.history_rules.specs.State.{now}
use Rattle.history_rules.specs.Evidence.{dark_weight, live_weight}
use Rattle.history_rules.specs.Posed.{least_after, diagnosis_after}
use Rattle.history_rules.specs.Run.{Outcome, Skips, Refuses, Applies, counted, outcome_of, history_by, history_in}
use Rattle.history_rules.specs.Outages.{outages_after}
use Rattle.history_rules.specs.Ledger.{is_judged_dark, ledger_after}
use Rattle.history_rules.specs.Crew.{crew_order}
use Rattle.history_rules.specs.Indices.{saifi, saidi, caidi, whole_period}
use Rattle.history_rules.specs.StampTexts.{stamp_text}

abbrev pub device_word : Parts → ℕ → List ℕ
device_word g d = (device_at g d).name

abbrev pub meter_word : Parts → ℕ → List ℕ
meter_word g m = (meter_at g m).name

-- a text, or `none`
abbrev pub or_none : {X : Type 0} → (X → List ℕ) → Option X → List ℕ
or_none text None = codes "none"
or_none text (Some x) = text x

abbrev pub second_word : Stamp → List ℕ
second_word t = stamp_text t.0

abbrev pub sort_word : Bool → List ℕ
sort_word true = codes "nested"
sort_word false = codes "plain"

-- the second of the last event
abbrev pub now_word : List Event → List ℕ
now_word [] = codes "none"
now_word (e ∷ h) = second_word e.time

abbrev pub outage_row : Parts → Outage → List ℕ
outage_row g o =
    row (codes "outage" ∷ device_word g o.device.0 ∷ or_none (λ d. device_word g d.0) o.above ∷ decimal o.meters ∷ decimal o.customers
    ∷ or_none second_word o.since ∷ sort_word o.nested ∷ [])

-- what a meter's reports weigh that the diagnosis contradicts, where it is anything
abbrev pub unexplained_by : Parts → ℕ → List ℕ → ℕ → List ℕ
unexplained_by g m word weight = if weight == 0 then [] else row (codes "unexplained" ∷ meter_word g m ∷ word ∷ decimal weight ∷ [])

-- of a meter that is judged dark its live report, and of another its dark ones
unfoldable pub unexplained_row : Parts → List Event → ℕ → List ℕ
unexplained_row g h m =
    if is_judged_dark g m h then unexplained_by g m (codes "live") (live_weight g h m)
    else unexplained_by g m (codes "dark") (dark_weight g h m)

-- the end of a line of the ledger, or `open`
abbrev pub end_word : Option Stamp → List ℕ
end_word None = codes "open"
end_word (Some t) = second_word t

abbrev pub line_row : Parts → Line → List ℕ
line_row g l = row (codes "line" ∷ meter_word g l.meter.0 ∷ second_word l.start ∷ end_word l.end ∷ [])

-- the places of the outages in the order of crews, from a number on
unfoldable pub crew_rows : Parts → ℕ → List Outage → List ℕ
crew_rows g number [] = []
crew_rows g number (o ∷ rest) = row (codes "crew" ∷ decimal number ∷ device_word g o.device.0 ∷ []) ++ crew_rows g (number + 1) rest

-- an index as a fraction and as a decimal, or `none`
abbrev pub index_words : Option Ratio → List (List ℕ)
index_words None = codes "none" ∷ []
index_words (Some r) = ratio_words r

abbrev pub index_row : List ℕ → Option Ratio → List ℕ
index_row name value = row (codes "index" ∷ name ∷ index_words value)

-- the indices of a period, at a second
unfoldable pub index_rows : Parts → Period → ℕ → List Line → List ℕ
index_rows g period now lines =
    index_row (codes "saifi") (saifi g period now lines)
    ++ index_row (codes "saidi") (saidi g period now lines)
    ++ index_row (codes "caidi") (caidi g period now lines)

-- the first rows: the second of the last event, how many were applied and how many lines were refused, and the least cost
unfoldable pub first_rows_after : Parts → ℕ → List Event → List ℕ
first_rows_after g refused h =
    row (codes "report" ∷ now_word h ∷ [])
    ++ row (codes "counts" ∷ decimal (length h) ∷ decimal refused ∷ [])
    ++ row (codes "total" ∷ decimal (least_after g h) ∷ [])

-- the report after events, where so many lines were refused, with the indices of a period
unfoldable pub report_text : Parts → Period → ℕ → List Event → List ℕ
report_text g period refused h =
    first_rows_after g refused h
    ++ flat_map (outage_row g) (outages_after g h (diagnosis_after g h))
    ++ crew_rows g 1 (crew_order (outages_after g h (diagnosis_after g h)))
    ++ flat_map (unexplained_row g h) (range_with_len 0 (length g.meters))
    ++ flat_map (line_row g) (ledger_after g h)
    ++ index_rows g period (now h) (ledger_after g h)
    ++ row (codes "end" ∷ [])

-- the same without what it says of single devices and meters
unfoldable pub summary_text : Parts → ℕ → List Event → List ℕ
summary_text g refused h =
    first_rows_after g refused h ++ index_rows g whole_period (now h) (ledger_after g h) ++ row (codes "end" ∷ [])

-- whether a line is refused, as a number
abbrev pub refused_by : Outcome → ℕ
refused_by Skips = 0
refused_by (Refuses rule) = 1
refused_by (Applies e) = 0

-- how many of these lines are refused
unfoldable pub refused_in : Parts → List Event → List (List ℕ) → ℕ
refused_in g h [] = 0
refused_in g h (line ∷ rest) = refused_by (outcome_of g h line) + refused_in g (history_by h (outcome_of g h line)) rest

-- each line that counts is refused, or its event joins the others
abbrev pub RefusedAreTheRest : Type 0
RefusedAreTheRest = (g : Parts) (h : List Event) (lines : List (List ℕ)) → length (counted lines) + length h ≡ refused_in g h lines + length (history_in g h lines)
