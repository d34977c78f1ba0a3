-- Which devices the rows of an output show.
use Rattle.std.specs.Prelude.{◌≡◌, ◌<◌, ℕ, Bool, true, false, List, [], ◌∷◌, length, codes, if◌then◌else◌}
use Rattle.std.specs.Str.{bytes_eq}
use Rattle.grid_model.specs.Parts.{Parts}
use Rattle.grid_model.specs.Names.{name_eq}
use Rattle.grid_model.specs.Places.{device_at}
use Rattle.grid_model.specs.Sound.{IsSoundParts}
use Rattle.grid_model.specs.declared.history.Period.{Period}
use Rattle.event_rules.specs.Lines.{lines}
use Rattle.event_rules.specs.Fields.{between_commas}
use Rattle.history_rules.specs.Posed.{diagnosis_after}
use Rattle.history_rules.specs.Run.{history_in, history_of}
use Rattle.history_rules.specs.Output.{entries, replay_text}

-- a device is shown from a row `enters,LINE,DEVICE` on, up to a row `leaves,LINE,DEVICE`
abbrev pub shown_by : List ℕ → List (List ℕ) → Bool → Bool
shown_by name (word ∷ line ∷ device ∷ []) before =
    if name_eq name device then (if bytes_eq word (codes "enters") then true else (if bytes_eq word (codes "leaves") then false else before)) else before
shown_by name fields before = before

-- whether it is shown after rows, by whether it was before them
unfoldable pub shown_after : List ℕ → Bool → List (List ℕ) → Bool
shown_after name before [] = before
shown_after name before (row ∷ rest) = shown_after name (shown_by name (between_commas row) before) rest

-- whether an output shows the device of a name
abbrev pub is_shown : List ℕ → List ℕ → Bool
is_shown name output = shown_after name false (lines output)

-- a reader of the output, line by line, knows the diagnosis: what the rows show is what it opens
pub record ShowsDiagnosis (g : Parts) (d : ℕ) : Type 0 where
  pub entries : (events : List (List ℕ)) → is_shown (device_at g d).name (entries g 1 [] events) ≡ diagnosis_after g (history_in g [] events) d
  pub replay : (period : Period) (events : List ℕ) → is_shown (device_at g d).name (replay_text g period events) ≡ diagnosis_after g (history_of g events) d

-- so it is of each device of the network
abbrev pub DiagnosisIsPrinted : Type 0
DiagnosisIsPrinted = (g : Parts) (d : ℕ) → IsSoundParts g → d < length g.devices → ShowsDiagnosis g d
