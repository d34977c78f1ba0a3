-- The lines of a text make a history of a history.
use Rattle.std.proofs.Common.{◌≡◌, ℕ, ◌<◌, Bool, true, false, List, [], ◌∷◌, refl, subst, length}
use Rattle.std.specs.Prelude.{⊤, nat_lt, Option, Some, None, Result, Ok, Err, codes, position, option_map, ok_or, if◌then◌else◌}
use Rattle.std.specs.Str.{bytes_eq}
use Rattle.std.proofs.lemmas.Bool.{cond_both}
use Rattle.std.proofs.lemmas.List.Quantifiers.{position-Some}
use Rattle.grid_model.specs.Parts.{Parts}
use Rattle.grid_model.specs.Name.{is_name}
use Rattle.grid_model.specs.Names.{name_eq}
use Rattle.grid_model.specs.Places.{no_meter, no_device, meter_id, device_id}
use Rattle.grid_model.specs.declared.parts.MeterId.{MeterId}
use Rattle.grid_model.specs.declared.parts.DeviceId.{DeviceId}
use Rattle.grid_model.specs.declared.history.Event.{Event}
use Rattle.grid_model.specs.declared.history.Refusal.{Refusal}
use Rattle.grid_model.specs.declared.history.What.{What}
use Rattle.grid_model.specs.declared.history.What.TheVariants as what
use Rattle.grid_model.specs.declared.history.Want.TheVariants as want
use Rattle.grid_model.specs.declared.history.Confirmed.TheVariants as confirmed
use Rattle.event_rules.specs.declared.read_rule.ReadRule.{ReadRule}
use Rattle.event_rules.specs.declared.read_rule.ReadRule.TheVariants.{TooLong, BadFields, BadWord, BadName, UnknownMeter, UnknownDevice}
use Rattle.event_rules.specs.Lines.{is_skipped, most_line}
use Rattle.event_rules.specs.Fields.{between_commas, has_no_fields}
use Rattle.event_rules.specs.Stamps.{stamp_of}
use Rattle.event_rules.specs.EventLines.{Shape, AtMeter, AtDevice, AtNone, EventReading, IsSkipped, IsEvent, IsRefused, misfit, lone_shape, named_shape, ping_shape, confirm_shape, detailed_shape, shape_of, meter_named, device_named, at_found, what_of, event_at, event_of_shape, event_of_fields, event_in, reading_of, event_reading}
use Rattle.history_rules.specs.Posed.{refusal_of, IsOfGrid, IsHistory}
use Rattle.history_rules.specs.Run.{outcome_by, outcome_after, outcome_of, history_by, history_in}

-- what is read names parts of the network
abbrev IsGoodWhat : Parts → Result What ReadRule → Type 0
IsGoodWhat g (Ok w) = IsOfGrid g w
IsGoodWhat g (Err rule) = ⊤

abbrev IsGoodEvent : Parts → Result Event ReadRule → Type 0
IsGoodEvent g (Ok e) = IsOfGrid g e.what
IsGoodEvent g (Err rule) = ⊤

abbrev IsGoodReading : Parts → EventReading → Type 0
IsGoodReading g IsSkipped = ⊤
IsGoodReading g (IsEvent e) = IsOfGrid g e.what
IsGoodReading g (IsRefused rule) = ⊤

-- a shape makes events that do, from a meter or a device of the network
abbrev IsGoodShape : Parts → Shape → Type 0
IsGoodShape g (AtMeter make name) = (m : MeterId) → m.0 < length g.meters → IsOfGrid g (make m)
IsGoodShape g (AtDevice make name) = (d : DeviceId) → d.0 < length g.devices → IsOfGrid g (make d)
IsGoodShape g (AtNone w) = IsOfGrid g w

abbrev AreGoodShapes : Parts → Result Shape ReadRule → Type 0
AreGoodShapes g (Ok s) = IsGoodShape g s
AreGoodShapes g (Err rule) = ⊤

abbrev IsGoodMeter : Parts → Result MeterId ReadRule → Type 0
IsGoodMeter g (Ok m) = m.0 < length g.meters
IsGoodMeter g (Err rule) = ⊤

abbrev IsGoodDevice : Parts → Result DeviceId ReadRule → Type 0
IsGoodDevice g (Ok d) = d.0 < length g.devices
IsGoodDevice g (Err rule) = ⊤

-- the shapes of lines, by which of their words it is
abbrev named_by : Bool → Bool → Bool → Bool → Bool → Bool → List ℕ → Result Shape ReadRule → Result Shape ReadRule
named_by a b c d e f name other =
    if a then Ok (AtMeter (λ m. what.Call m) name)
    else (if b then Ok (AtMeter (λ m. what.Gasp m) name)
    else (if c then Ok (AtMeter (λ m. what.Powerup m) name)
    else (if d then Ok (AtDevice (λ d. what.Restore d) name)
    else (if e then Ok (AtDevice (λ d. what.Order d want.Opened) name)
    else (if f then Ok (AtDevice (λ d. what.Order d want.Closed) name) else other)))))

abbrev ping_by : Bool → Bool → List ℕ → Result Shape ReadRule
ping_by up down name = if up then Ok (AtMeter (λ m. what.PingUp m) name) else (if down then Ok (AtMeter (λ m. what.PingDown m) name) else Err BadWord)

abbrev confirm_by : Bool → Bool → Bool → List ℕ → Result Shape ReadRule
confirm_by a b c name =
    if a then Ok (AtDevice (λ d. what.Confirm d confirmed.Opened) name)
    else (if b then Ok (AtDevice (λ d. what.Confirm d confirmed.Fine) name)
    else (if c then Ok (AtDevice (λ d. what.Confirm d confirmed.Cleared) name) else Err BadWord))

module _ (g : Parts) where
  found_meter : (o : Option ℕ) → ((k : ℕ) → o ≡ Some k → k < length g.meters) → IsGoodMeter g (ok_or (option_map meter_id o) UnknownMeter)
  found_meter None within = tt
  found_meter (Some k) within = within k refl

  found_device : (o : Option ℕ) → ((k : ℕ) → o ≡ Some k → k < length g.devices) → IsGoodDevice g (ok_or (option_map device_id o) UnknownDevice)
  found_device None within = tt
  found_device (Some k) within = within k refl

  good_meter : (name : List ℕ) → IsGoodMeter g (meter_named g name)
  unfolding meter_named
  good_meter name =
      let place = position (λ m. name_eq name m.name) g.meters in
      cond_both (is_name name) (ok_or (option_map meter_id place) UnknownMeter) (Err BadName) (IsGoodMeter g)
      (λ e. found_meter place (λ k at. (position-Some (λ m. name_eq name m.name) g.meters k no_meter at).0)) (λ e. tt)

  good_device : (name : List ℕ) → IsGoodDevice g (device_named g name)
  unfolding device_named
  good_device name =
      let place = position (λ d. name_eq name d.name) g.devices in
      cond_both (is_name name) (ok_or (option_map device_id place) UnknownDevice) (Err BadName) (IsGoodDevice g)
      (λ e. found_device place (λ k at. (position-Some (λ d. name_eq name d.name) g.devices k no_device at).0)) (λ e. tt)

  bad : (word : List ℕ) → AreGoodShapes g (misfit word)
  unfolding misfit
  bad word = tt

  lone : (word : List ℕ) → AreGoodShapes g (lone_shape word)
  unfolding lone_shape
  lone word = cond_both (bytes_eq word (codes "clock")) (Ok (AtNone what.Clock)) (misfit word) (AreGoodShapes g) (λ e. tt) (λ e. bad word)

  -- which of the words it is
  good_named : (a b c d e f : Bool) (name : List ℕ) (other : Result Shape ReadRule) → AreGoodShapes g other → AreGoodShapes g (named_by a b c d e f name other)
  good_named true b c d e f name other good = λ m l. l
  good_named false true c d e f name other good = λ m l. l
  good_named false false true d e f name other good = λ m l. l
  good_named false false false true e f name other good = λ d l. l
  good_named false false false false true f name other good = λ d l. l
  good_named false false false false false true name other good = λ d l. l
  good_named false false false false false false name other good = good

  named : (word name : List ℕ) → AreGoodShapes g (named_shape word name)
  unfolding named_shape
  named word name =
      good_named (bytes_eq word (codes "call")) (bytes_eq word (codes "gasp")) (bytes_eq word (codes "powerup")) (bytes_eq word (codes "restore"))
      (bytes_eq word (codes "open")) (bytes_eq word (codes "close")) name (misfit word) (bad word)

  good_ping : (up down : Bool) (name : List ℕ) → AreGoodShapes g (ping_by up down name)
  good_ping true down name = λ m l. l
  good_ping false true name = λ m l. l
  good_ping false false name = tt

  good_confirm : (a b c : Bool) (name : List ℕ) → AreGoodShapes g (confirm_by a b c name)
  good_confirm true b c name = λ d l. l
  good_confirm false true c name = λ d l. l
  good_confirm false false true name = λ d l. l
  good_confirm false false false name = tt

  detailed : (word name detail : List ℕ) → AreGoodShapes g (detailed_shape word name detail)
  unfolding detailed_shape
  detailed word name detail =
      cond_both (bytes_eq word (codes "ping")) (ping_shape name detail) (if bytes_eq word (codes "confirm") then confirm_shape name detail else misfit word) (AreGoodShapes g)
      (λ e. good_ping (bytes_eq detail (codes "up")) (bytes_eq detail (codes "down")) name)
      (λ e. cond_both (bytes_eq word (codes "confirm")) (confirm_shape name detail) (misfit word) (AreGoodShapes g)
      (λ e. good_confirm (bytes_eq detail (codes "open")) (bytes_eq detail (codes "ok")) (bytes_eq detail (codes "clear")) name)
      (λ e. bad word))

  shapes : (word : List ℕ) (rest : List (List ℕ)) → AreGoodShapes g (shape_of word rest)
  shapes word [] = lone word
  shapes word (name ∷ []) = named word name
  shapes word (name ∷ detail ∷ []) = detailed word name detail
  shapes word (name ∷ detail ∷ more ∷ rest) = tt

  at_meter : (make : MeterId → What) (r : Result MeterId ReadRule) → ((m : MeterId) → m.0 < length g.meters → IsOfGrid g (make m)) → IsGoodMeter g r → IsGoodWhat g (at_found make r)
  at_meter make (Ok m) good l = good m l
  at_meter make (Err rule) good l = tt

  at_device : (make : DeviceId → What) (r : Result DeviceId ReadRule) → ((d : DeviceId) → d.0 < length g.devices → IsOfGrid g (make d)) → IsGoodDevice g r → IsGoodWhat g (at_found make r)
  at_device make (Ok d) good l = good d l
  at_device make (Err rule) good l = tt

  good_what : (s : Shape) → IsGoodShape g s → IsGoodWhat g (what_of g s)
  good_what (AtMeter make name) good = at_meter make (meter_named g name) good (good_meter name)
  good_what (AtDevice make name) good = at_device make (device_named g name) good (good_device name)
  good_what (AtNone w) good = good

  timed : (time : Option ℕ) (r : Result What ReadRule) → IsGoodWhat g r → IsGoodEvent g (event_at time r)
  timed None r good = tt
  timed (Some second) (Err rule) good = tt
  timed (Some second) (Ok w) good = good

  of_shape : (time : List ℕ) (r : Result Shape ReadRule) → AreGoodShapes g r → IsGoodEvent g (event_of_shape g time r)
  of_shape time (Err rule) good = tt
  of_shape time (Ok s) good = timed (stamp_of time) (what_of g s) (good_what s good)

  of_fields : (fields : List (List ℕ)) → IsGoodEvent g (event_of_fields g fields)
  of_fields [] = tt
  of_fields (time ∷ []) = tt
  of_fields (time ∷ word ∷ rest) = of_shape time (shape_of word rest) (shapes word rest)

  good_event : (line : List ℕ) → IsGoodEvent g (event_in g line)
  good_event line =
      cond_both (nat_lt most_line (length line)) (Err TooLong) (if has_no_fields line then Err BadFields else event_of_fields g (between_commas line)) (IsGoodEvent g) (λ e. tt)
      (λ e. cond_both (has_no_fields line) (Err BadFields) (event_of_fields g (between_commas line)) (IsGoodEvent g) (λ e. tt) (λ e. of_fields (between_commas line)))

  as_reading : (r : Result Event ReadRule) → IsGoodEvent g r → IsGoodReading g (reading_of r)
  as_reading (Ok e) good = good
  as_reading (Err rule) good = tt

  -- a line that is an event names a part of the network
  pub good_reading : (line : List ℕ) → IsGoodReading g (event_reading g line)
  unfolding event_reading
  good_reading line =
      cond_both (is_skipped line) IsSkipped (reading_of (event_in g line)) (IsGoodReading g) (λ e. tt) (λ e. as_reading (event_in g line) (good_event line))

  pub names_part : (line : List ℕ) (e : Event) → event_reading g line ≡ IsEvent e → IsOfGrid g e.what
  names_part line e read = subst (IsGoodReading g) read (good_reading line)

  joins : (h : List Event) (e : Event) (o : Option Refusal) → refusal_of g h e ≡ o → IsOfGrid g e.what → IsHistory g h → IsHistory g (history_by h (outcome_by e o))
  joins h e None fits l a = (l, fits, a)
  joins h e (Some rule) fits l a = a

  after_reading : (h : List Event) (r : EventReading) → IsGoodReading g r → IsHistory g h → IsHistory g (history_by h (outcome_after g h r))
  after_reading h IsSkipped good a = a
  after_reading h (IsRefused rule) good a = a
  after_reading h (IsEvent e) good a = joins h e (refusal_of g h e) refl good a

  after_line : (h : List Event) (line : List ℕ) → IsHistory g h → IsHistory g (history_by h (outcome_of g h line))
  unfolding outcome_of
  after_line h line a = after_reading h (event_reading g line) (good_reading line) a

  after_lines : (lines : List (List ℕ)) (h : List Event) → IsHistory g h → IsHistory g (history_in g h lines)
  unfolding history_in
  after_lines [] h a = a
  after_lines (line ∷ rest) h a = after_lines rest (history_by h (outcome_of g h line)) (after_line h line a)

pub run_is_history : (g : Parts) (h : List Event) (lines : List (List ℕ)) → IsHistory g h → IsHistory g (history_in g h lines)
run_is_history g h lines a = after_lines g lines h a
