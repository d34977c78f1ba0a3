-- What a line of an event text says, or the first rule that it breaks.
use Rattle.std.specs.Prelude.{ℕ, Bool, List, [], ◌∷◌, length, nat_lt, Option, Some, None, Result, Ok, Err, if◌then◌else◌, codes, position, option_map, ok_or}
use Rattle.std.specs.List.{list_any}
use Rattle.std.specs.Str.{bytes_eq}
use Rattle.word_tables.specs.Words.{event_words}
use Rattle.grid_model.specs.Parts.{Parts}
use Rattle.grid_model.specs.Name.{is_name}
use Rattle.grid_model.specs.Names.{name_eq}
use Rattle.grid_model.specs.Places.{meter_id, device_id}
use Rattle.grid_model.specs.declared.parts.MeterId.{MeterId}
use Rattle.grid_model.specs.declared.parts.DeviceId.{DeviceId}
use Rattle.grid_model.specs.declared.history.Event.{Event}
use Rattle.grid_model.specs.declared.history.What.{What}
use Rattle.grid_model.specs.declared.history.What.TheVariants as what
use Rattle.grid_model.specs.declared.history.Want.TheVariants as want
use Rattle.grid_model.specs.declared.history.Confirmed.TheVariants as confirmed
use Rattle.event_rules.specs.declared.read_rule.ReadRule.{ReadRule}
use Rattle.event_rules.specs.declared.read_rule.ReadRule.TheVariants.{TooLong, BadFields, BadWord, BadTime, BadName, UnknownMeter, UnknownDevice}
use Rattle.event_rules.specs.Lines.{is_skipped, most_line}
use Rattle.event_rules.specs.Fields.{between_commas, has_no_fields}
use Rattle.event_rules.specs.Stamps.{stamp_of}

-- what happened, by the text that names its meter or its device
pub data Shape : Type 0 where
  AtMeter : (what : MeterId → What) (meter : List ℕ) → Shape
  AtDevice : (what : DeviceId → What) (device : List ℕ) → Shape
  AtNone : (what : What) → Shape

-- whether lines of this word exist
abbrev pub is_event_word : List ℕ → Bool
is_event_word word = list_any (bytes_eq word) event_words

-- a line that is none of those with its number of fields
unfoldable pub misfit : List ℕ → Result Shape ReadRule
misfit word = Err (if is_event_word word then BadFields else BadWord)

-- TIME,clock
unfoldable pub lone_shape : List ℕ → Result Shape ReadRule
lone_shape word = if bytes_eq word (codes "clock") then Ok (AtNone what.Clock) else misfit word

-- TIME,WORD,METER and TIME,WORD,DEVICE
unfoldable pub named_shape : List ℕ → List ℕ → Result Shape ReadRule
named_shape word name =
    if bytes_eq word (codes "call") then Ok (AtMeter (λ m. what.Call m) name)
    else (if bytes_eq word (codes "gasp") then Ok (AtMeter (λ m. what.Gasp m) name)
    else (if bytes_eq word (codes "powerup") then Ok (AtMeter (λ m. what.Powerup m) name)
    else (if bytes_eq word (codes "restore") then Ok (AtDevice (λ d. what.Restore d) name)
    else (if bytes_eq word (codes "open") then Ok (AtDevice (λ d. what.Order d want.Opened) name)
    else (if bytes_eq word (codes "close") then Ok (AtDevice (λ d. what.Order d want.Closed) name) else misfit word)))))

-- TIME,ping,METER,up and TIME,ping,METER,down
abbrev pub ping_shape : List ℕ → List ℕ → Result Shape ReadRule
ping_shape meter answer =
    if bytes_eq answer (codes "up") then Ok (AtMeter (λ m. what.PingUp m) meter)
    else (if bytes_eq answer (codes "down") then Ok (AtMeter (λ m. what.PingDown m) meter) else Err BadWord)

-- TIME,confirm,DEVICE,open and TIME,confirm,DEVICE,ok and TIME,confirm,DEVICE,clear
abbrev pub confirm_shape : List ℕ → List ℕ → Result Shape ReadRule
confirm_shape device finding =
    if bytes_eq finding (codes "open") then Ok (AtDevice (λ d. what.Confirm d confirmed.Opened) device)
    else (if bytes_eq finding (codes "ok") then Ok (AtDevice (λ d. what.Confirm d confirmed.Fine) device)
    else (if bytes_eq finding (codes "clear") then Ok (AtDevice (λ d. what.Confirm d confirmed.Cleared) device) else Err BadWord))

unfoldable pub detailed_shape : List ℕ → List ℕ → List ℕ → Result Shape ReadRule
detailed_shape word name detail =
    if bytes_eq word (codes "ping") then ping_shape name detail
    else (if bytes_eq word (codes "confirm") then confirm_shape name detail else misfit word)

-- the shape of a line by its word and the fields behind it
abbrev pub shape_of : List ℕ → List (List ℕ) → Result Shape ReadRule
shape_of word [] = lone_shape word
shape_of word (name ∷ []) = named_shape word name
shape_of word (name ∷ detail ∷ []) = detailed_shape word name detail
shape_of word rest = Err BadFields

-- the meter and the device of a name
unfoldable pub meter_named : Parts → List ℕ → Result MeterId ReadRule
meter_named g name = if is_name name then ok_or (option_map meter_id (position (λ m. name_eq name m.name) g.meters)) UnknownMeter else Err BadName

unfoldable pub device_named : Parts → List ℕ → Result DeviceId ReadRule
device_named g name = if is_name name then ok_or (option_map device_id (position (λ d. name_eq name d.name) g.devices)) UnknownDevice else Err BadName

abbrev pub at_found : {Id : Type 0} → (Id → What) → Result Id ReadRule → Result What ReadRule
at_found what (Err rule) = Err rule
at_found what (Ok id) = Ok (what id)

-- what happened at a part of the network
abbrev pub what_of : Parts → Shape → Result What ReadRule
what_of g (AtMeter what meter) = at_found what (meter_named g meter)
what_of g (AtDevice what device) = at_found what (device_named g device)
what_of g (AtNone what) = Ok what

-- the rule on the time stands before those on the name
abbrev pub event_at : Option ℕ → Result What ReadRule → Result Event ReadRule
event_at None found = Err BadTime
event_at (Some second) (Err rule) = Err rule
event_at (Some second) (Ok what) = Ok (record { time = record { 0 = second }; what = what })

-- and those on the fields and the words before it
abbrev pub event_of_shape : Parts → List ℕ → Result Shape ReadRule → Result Event ReadRule
event_of_shape g time (Err rule) = Err rule
event_of_shape g time (Ok shape) = event_at (stamp_of time) (what_of g shape)

-- the event of these fields
abbrev pub event_of_fields : Parts → List (List ℕ) → Result Event ReadRule
event_of_fields g (time ∷ word ∷ rest) = event_of_shape g time (shape_of word rest)
event_of_fields g fields = Err BadFields

-- the event of a line that isn't skipped
abbrev pub event_in : Parts → List ℕ → Result Event ReadRule
event_in g line =
    if nat_lt most_line (length line) then Err TooLong
    else (if has_no_fields line then Err BadFields else event_of_fields g (between_commas line))

-- a line is skipped, or is an event, or is refused by the first rule that it breaks
pub data EventReading : Type 0 where
  IsSkipped : EventReading
  IsEvent : (event : Event) → EventReading
  IsRefused : (rule : ReadRule) → EventReading

abbrev pub reading_of : Result Event ReadRule → EventReading
reading_of (Ok event) = IsEvent event
reading_of (Err rule) = IsRefused rule

unfoldable pub event_reading : Parts → List ℕ → EventReading
event_reading g line = if is_skipped line then IsSkipped else reading_of (event_in g line)
