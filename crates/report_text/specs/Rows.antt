-- What the rows of a report say, and what they need.
use Rattle.std.specs.Prelude.{ℕ, ◌<◌, ◌≤◌, ◌==◌, Bool, List, Option, Some, None, ◌∷◌, [], ◌++◌, length, IfSome, if◌then◌else◌, codes, decimal}
use Rattle.grid_model.specs.Parts.{Parts}
use Rattle.grid_model.specs.declared.history.Line.{Line}
use Rattle.grid_model.specs.declared.history.Outage.{Outage}
use Rattle.grid_model.specs.declared.history.Stamp.{Stamp}
use Rattle.event_rules.specs.Rows.{row}
use Rattle.event_rules.specs.Fractions.{Ratio, ratio_text}
use Rattle.evidence.specs.declared.Pull.{Pull}
use Rattle.history_rules.specs.StampTexts.{last_second}
use Rattle.history_rules.specs.Report.{second_word, unexplained_by}

-- a report tells of no more events than these
abbrev pub most_applied : ℕ
most_applied = 2000000

-- the second has a text
abbrev pub IsWritable : Stamp → Type 0
IsWritable t = t.0 ≤ last_second

-- the outage is one of this network, and its second has a text
pub record IsOutageOf (g : Parts) (o : Outage) : Type 0 where
  pub device : o.device.0 < length g.devices
  pub above : IfSome o.above (λ d. d.0 < length g.devices)
  pub since : IfSome o.since IsWritable

-- the line is one of this network, and its seconds have texts
pub record IsLineOf (g : Parts) (l : Line) : Type 0 where
  pub meter : l.meter.0 < length g.meters
  pub start : IsWritable l.start
  pub end : IfSome l.end IsWritable

-- the second of the last of so many events
abbrev pub last_word : ℕ → Stamp → List ℕ
last_word applied now = if applied == 0 then codes "none" else second_word now

-- the first three rows
abbrev pub first_rows : ℕ → Stamp → ℕ → ℕ → List ℕ
first_rows applied now refused total =
    row (codes "report" ∷ last_word applied now ∷ [])
    ++ row (codes "counts" ∷ decimal applied ∷ decimal refused ∷ [])
    ++ row (codes "total" ∷ decimal total ∷ [])

-- what the reports of a meter weigh that its judgement contradicts
abbrev pub contradicted : Parts → ℕ → Bool → Pull → List ℕ
contradicted g m is_dark pull =
    if is_dark then unexplained_by g m (codes "live") pull.live else unexplained_by g m (codes "dark") pull.dark

-- a text, or another where there is none
abbrev pub text_or : Option (List ℕ) → List ℕ → List ℕ
text_or None other = other
text_or (Some text) other = text

-- the text of an index
abbrev pub value_text : Option Ratio → List ℕ
value_text None = codes "none"
value_text (Some r) = ratio_text r
