-- The rules on a line of an event text, in the order in which they are tried.
use Rattle.std.specs.Prelude.{◌≡◌, ◌↔◌, ℕ, Bool, true, false, ◌==◌, ◌&&◌, ◌||◌, not, nat_lt, List, [], ◌∷◌, length, Some, None, is_none, codes, position, if◌then◌else◌}
use Rattle.std.specs.Str.{bytes_eq}
use Rattle.grid_model.specs.Parts.{Parts}
use Rattle.grid_model.specs.Name.{is_name}
use Rattle.grid_model.specs.Names.{name_eq}
use Rattle.grid_model.specs.declared.history.Event.{Event}
use Rattle.event_rules.specs.declared.read_rule.ReadRule.{ReadRule}
use Rattle.event_rules.specs.declared.read_rule.ReadRule.TheVariants.{TooLong, BadFields, BadWord, BadTime, BadName, UnknownMeter, UnknownDevice}
use Rattle.event_rules.specs.Lines.{is_skipped, most_line}
use Rattle.event_rules.specs.Fields.{between_commas, has_no_fields}
use Rattle.event_rules.specs.Stamps.{stamp_of}
use Rattle.event_rules.specs.EventLines.{is_event_word, event_reading, IsSkipped, IsEvent, IsRefused}
use Rattle.line_laws.specs.FirstRule.{Tried, Where, first_broken, field, is_one_of}

-- A line is TIME,clock or TIME,WORD,NAME or TIME,ping,METER,ANSWER or TIME,confirm,DEVICE,FINDING.

-- the words of lines that name a meter
abbrev pub meter_words : List (List ℕ)
meter_words = codes "call" ∷ codes "gasp" ∷ codes "powerup" ∷ codes "ping" ∷ []

-- and of those that name a device
abbrev pub device_words : List (List ℕ)
device_words = codes "restore" ∷ codes "open" ∷ codes "close" ∷ codes "confirm" ∷ []

-- how many fields a line of this word has
abbrev pub count_with : List ℕ → ℕ
count_with word =
    if bytes_eq word (codes "clock") then 2
    else (if is_one_of word (codes "ping" ∷ codes "confirm" ∷ []) then 4 else 3)

-- fewer than two fields or more than four, or not as many as lines of this word have
abbrev pub has_bad_count : List (List ℕ) → Bool
has_bad_count fields =
    nat_lt (length fields) 2
    || (nat_lt 4 (length fields)
    || (is_event_word (field fields 1) && not (length fields == count_with (field fields 1))))

-- no word of an event, a ping that says neither up nor down, or a confirmation that says neither open nor ok nor clear
abbrev pub has_bad_word : List (List ℕ) → Bool
has_bad_word fields =
    not (is_event_word (field fields 1))
    || ((bytes_eq (field fields 1) (codes "ping") && not (is_one_of (field fields 3) (codes "up" ∷ codes "down" ∷ [])))
    || (bytes_eq (field fields 1) (codes "confirm") && not (is_one_of (field fields 3) (codes "open" ∷ codes "ok" ∷ codes "clear" ∷ []))))

-- the first field is no stamp
abbrev pub has_bad_time : List (List ℕ) → Bool
has_bad_time fields = is_none (stamp_of (field fields 0))

-- the line names a meter or a device, by what is no name
abbrev pub has_bad_name : List (List ℕ) → Bool
has_bad_name fields = not (bytes_eq (field fields 1) (codes "clock")) && not (is_name (field fields 2))

-- it names a meter that the network hasn't
abbrev pub names_no_meter : Parts → List (List ℕ) → Bool
names_no_meter g fields = is_one_of (field fields 1) meter_words && is_none (position (λ m. name_eq (field fields 2) m.name) g.meters)

-- or a device that it hasn't
abbrev pub names_no_device : Parts → List (List ℕ) → Bool
names_no_device g fields = is_one_of (field fields 1) device_words && is_none (position (λ d. name_eq (field fields 2) d.name) g.devices)

-- the rules, each with whether the line breaks it
abbrev pub event_rules : Parts → List ℕ → List (Tried ReadRule)
event_rules g line =
    let fields = between_commas line in
    Where TooLong (nat_lt most_line (length line))
    ∷ Where BadFields (has_no_fields line || has_bad_count fields)
    ∷ Where BadWord (has_bad_word fields)
    ∷ Where BadTime (has_bad_time fields)
    ∷ Where BadName (has_bad_name fields)
    ∷ Where UnknownMeter (names_no_meter g fields)
    ∷ Where UnknownDevice (names_no_device g fields)
    ∷ []

-- a line that isn't skipped is refused by the first rule that it breaks, and is an event where it breaks none
pub record FirstRuleRefuses (g : Parts) (line : List ℕ) : Type 0 where
  pub skipped : (event_reading g line ≡ IsSkipped) ↔ (is_skipped line ≡ true)
  pub refused : (rule : ReadRule) → (event_reading g line ≡ IsRefused rule)
      ↔ ((is_skipped line ≡ false) × (first_broken (event_rules g line) ≡ Some rule))
  pub event : ((e : Event) × (event_reading g line ≡ IsEvent e))
      ↔ ((is_skipped line ≡ false) × (first_broken (event_rules g line) ≡ None))

abbrev pub EventRulesAreInOrder : Type 0
EventRulesAreInOrder = (g : Parts) (line : List ℕ) → FirstRuleRefuses g line
