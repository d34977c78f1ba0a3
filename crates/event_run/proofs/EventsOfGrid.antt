-- An event that is read is of the network.
use Rattle.std.proofs.Common.{◌≡◌, ℕ, ◌<◌, Bool, true, false, cond, refl, subst, List, [], ◌∷◌, length, Option, Some, None, Result, Ok, Err}
use Rattle.std.specs.Prelude.{IfOk, nat_lt, position, option_map, ok_or, codes}
use Rattle.std.specs.Str.{bytes_eq}
use Rattle.std.proofs.lemmas.List.Quantifiers.{position-Some}
use Rattle.grid_model.specs.Parts.{Parts}
use Rattle.grid_model.specs.Name.{is_name}
use Rattle.grid_model.specs.Names.{name_eq}
use Rattle.grid_model.specs.Places.{no_meter, no_device, meter_id, device_id}
use Rattle.grid_model.specs.declared.parts.MeterId.{MeterId}
use Rattle.grid_model.specs.declared.parts.DeviceId.{DeviceId}
use Rattle.grid_model.specs.declared.history.Event.{Event}
use Rattle.grid_model.specs.declared.history.What.{What}
use Rattle.grid_model.specs.declared.history.What.TheVariants as what
use Rattle.grid_model.specs.declared.history.Want.TheVariants as want
use Rattle.grid_model.specs.declared.history.Confirmed.TheVariants as confirmed
use Rattle.event_rules.specs.declared.read_rule.ReadRule.{ReadRule}
use Rattle.event_rules.specs.declared.read_rule.ReadRule.TheVariants.{BadFields, BadWord, BadName, TooLong, UnknownMeter, UnknownDevice}
use Rattle.event_rules.specs.Stamps.{stamp_of}
use Rattle.event_rules.specs.Fields.{between_commas, has_no_fields}
use Rattle.event_rules.specs.Lines.{is_skipped, most_line}
use Rattle.event_rules.specs.EventLines.{Shape, AtMeter, AtDevice, AtNone, misfit, lone_shape, named_shape, detailed_shape, ping_shape, confirm_shape, shape_of, meter_named, device_named, at_found, what_of, event_at, event_of_shape, event_of_fields, event_in, IsSkipped, IsEvent, reading_of, event_reading}
use Rattle.history_rules.specs.Posed.{IsOfGrid}

-- what is answered is such, where it is no error
record Sure {X : Type 0} (P : X → Type 0) (r : Result X ReadRule) : Type 0 where
  ok : IfOk r P

either : {X : Type 0} {P : X → Type 0} {r s : Result X ReadRule} (b : Bool) → Sure P r → Sure P s → Sure P (cond b r s)
either true h k = h
either false h k = k

unsure : {X : Type 0} (P : X → Type 0) (rule : ReadRule) → Sure P (Err rule)
unsure P rule = record { ok = tt }

module _ (g : Parts) where
  -- what happened is at a part of the network, whichever part has the name
  IsProper : Shape → Type 0
  IsProper (AtMeter what meter) = (m : MeterId) → m.0 < length g.meters → IsOfGrid g (what m)
  IsProper (AtDevice what device) = (d : DeviceId) → d.0 < length g.devices → IsOfGrid g (what d)
  IsProper (AtNone what) = IsOfGrid g what

  meter_or : (text key : List ℕ) (what : MeterId → What) (name : List ℕ) {rest : Result Shape ReadRule} → ((m : MeterId) → m.0 < length g.meters → IsOfGrid g (what m)) → Sure IsProper rest
      → Sure IsProper (cond (bytes_eq text key) (Ok (AtMeter what name)) rest)
  unfolding IsProper
  meter_or text key what name proper rest = either (bytes_eq text key) (record { ok = proper }) rest

  device_or : (text key : List ℕ) (what : DeviceId → What) (name : List ℕ) {rest : Result Shape ReadRule} → ((d : DeviceId) → d.0 < length g.devices → IsOfGrid g (what d)) → Sure IsProper rest
      → Sure IsProper (cond (bytes_eq text key) (Ok (AtDevice what name)) rest)
  unfolding IsProper
  device_or text key what name proper rest = either (bytes_eq text key) (record { ok = proper }) rest

  misfit_proper : (word : List ℕ) → Sure IsProper (misfit word)
  unfolding misfit
  misfit_proper word = record { ok = tt }

  clock_proper : Sure IsProper (Ok (AtNone what.Clock))
  unfolding IsProper
  clock_proper = record { ok = tt }

  lone_proper : (word : List ℕ) → Sure IsProper (lone_shape word)
  unfolding lone_shape
  lone_proper word = either (bytes_eq word (codes "clock")) clock_proper (misfit_proper word)

  named_proper : (word name : List ℕ) → Sure IsProper (named_shape word name)
  unfolding named_shape
  named_proper word name =
      meter_or word (codes "call") (λ m. what.Call m) name (λ m l. l)
      (meter_or word (codes "gasp") (λ m. what.Gasp m) name (λ m l. l)
      (meter_or word (codes "powerup") (λ m. what.Powerup m) name (λ m l. l)
      (device_or word (codes "restore") (λ d. what.Restore d) name (λ d l. l)
      (device_or word (codes "open") (λ d. what.Order d want.Opened) name (λ d l. l)
      (device_or word (codes "close") (λ d. what.Order d want.Closed) name (λ d l. l) (misfit_proper word))))))

  ping_proper : (name detail : List ℕ) → Sure IsProper (ping_shape name detail)
  ping_proper name detail =
      meter_or detail (codes "up") (λ m. what.PingUp m) name (λ m l. l) (meter_or detail (codes "down") (λ m. what.PingDown m) name (λ m l. l) (unsure IsProper BadWord))

  confirm_proper : (name detail : List ℕ) → Sure IsProper (confirm_shape name detail)
  confirm_proper name detail =
      device_or detail (codes "open") (λ d. what.Confirm d confirmed.Opened) name (λ d l. l)
      (device_or detail (codes "ok") (λ d. what.Confirm d confirmed.Fine) name (λ d l. l)
      (device_or detail (codes "clear") (λ d. what.Confirm d confirmed.Cleared) name (λ d l. l) (unsure IsProper BadWord)))

  detailed_proper : (word name detail : List ℕ) → Sure IsProper (detailed_shape word name detail)
  unfolding detailed_shape
  detailed_proper word name detail =
      either (bytes_eq word (codes "ping")) (ping_proper name detail) (either (bytes_eq word (codes "confirm")) (confirm_proper name detail) (misfit_proper word))

  shape_proper : (word : List ℕ) (rest : List (List ℕ)) → Sure IsProper (shape_of word rest)
  shape_proper word [] = lone_proper word
  shape_proper word (name ∷ []) = named_proper word name
  shape_proper word (name ∷ detail ∷ []) = detailed_proper word name detail
  shape_proper word (name ∷ detail ∷ more ∷ rest) = unsure IsProper BadFields

  meter_at_place : (o : Option ℕ) (name : List ℕ) → position (λ m. name_eq name m.name) g.meters ≡ o → Sure (λ m. m.0 < length g.meters) (ok_or (option_map meter_id o) UnknownMeter)
  meter_at_place None name e = record { ok = tt }
  meter_at_place (Some k) name e = record { ok = (position-Some (λ m. name_eq name m.name) g.meters k no_meter e).0 }

  device_at_place : (o : Option ℕ) (name : List ℕ) → position (λ d. name_eq name d.name) g.devices ≡ o → Sure (λ d. d.0 < length g.devices) (ok_or (option_map device_id o) UnknownDevice)
  device_at_place None name e = record { ok = tt }
  device_at_place (Some k) name e = record { ok = (position-Some (λ d. name_eq name d.name) g.devices k no_device e).0 }

  meter_found : (name : List ℕ) → Sure (λ m. m.0 < length g.meters) (meter_named g name)
  unfolding meter_named
  meter_found name = either (is_name name) (meter_at_place (position (λ m. name_eq name m.name) g.meters) name refl) (unsure (λ m. m.0 < length g.meters) BadName)

  device_found : (name : List ℕ) → Sure (λ d. d.0 < length g.devices) (device_named g name)
  unfolding device_named
  device_found name = either (is_name name) (device_at_place (position (λ d. name_eq name d.name) g.devices) name refl) (unsure (λ d. d.0 < length g.devices) BadName)

  at_meter : (what : MeterId → What) (found : Result MeterId ReadRule) → ((m : MeterId) → m.0 < length g.meters → IsOfGrid g (what m)) → Sure (λ m. m.0 < length g.meters) found → Sure (IsOfGrid g) (at_found what found)
  at_meter what (Err rule) proper l = record { ok = tt }
  at_meter what (Ok m) proper l = record { ok = proper m l.ok }

  at_device : (what : DeviceId → What) (found : Result DeviceId ReadRule) → ((d : DeviceId) → d.0 < length g.devices → IsOfGrid g (what d)) → Sure (λ d. d.0 < length g.devices) found → Sure (IsOfGrid g) (at_found what found)
  at_device what (Err rule) proper l = record { ok = tt }
  at_device what (Ok d) proper l = record { ok = proper d l.ok }

  what_known : (shape : Shape) → IsProper shape → Sure (IsOfGrid g) (what_of g shape)
  unfolding IsProper
  what_known (AtMeter what meter) proper = at_meter what (meter_named g meter) proper (meter_found meter)
  what_known (AtDevice what device) proper = at_device what (device_named g device) proper (device_found device)
  what_known (AtNone what) proper = record { ok = proper }

  timed : (second : Option ℕ) (found : Result What ReadRule) → Sure (IsOfGrid g) found → Sure (λ e. IsOfGrid g e.what) (event_at second found)
  timed None found known = record { ok = tt }
  timed (Some second) (Err rule) known = record { ok = tt }
  timed (Some second) (Ok what) known = record { ok = known.ok }

  shaped : (time : List ℕ) (shape : Result Shape ReadRule) → Sure IsProper shape → Sure (λ e. IsOfGrid g e.what) (event_of_shape g time shape)
  shaped time (Err rule) proper = record { ok = tt }
  shaped time (Ok shape) proper = timed (stamp_of time) (what_of g shape) (what_known shape proper.ok)

  fields_known : (fields : List (List ℕ)) → Sure (λ e. IsOfGrid g e.what) (event_of_fields g fields)
  fields_known [] = record { ok = tt }
  fields_known (time ∷ []) = record { ok = tt }
  fields_known (time ∷ word ∷ rest) = shaped time (shape_of word rest) (shape_proper word rest)

  line_known : (line : List ℕ) → Sure (λ e. IsOfGrid g e.what) (event_in g line)
  line_known line =
      let P : Event → Type 0 = λ e. IsOfGrid g e.what in
      either (nat_lt most_line (length line)) (unsure P TooLong) (either (has_no_fields line) (unsure P BadFields) (fields_known (between_commas line)))

  read_known : (skipped : Bool) (read : Result Event ReadRule) (event : Event) → Sure (λ e. IsOfGrid g e.what) read → cond skipped IsSkipped (reading_of read) ≡ IsEvent event → IsOfGrid g event.what
  read_known true read event known e = cc
  read_known false (Err rule) event known e = cc
  read_known false (Ok found) event known e = let same : found ≡ event = cc in subst (λ x. IsOfGrid g x.what) same known.ok

  pub event_known : (line : List ℕ) (event : Event) → event_reading g line ≡ IsEvent event → IsOfGrid g event.what
  unfolding event_reading
  event_known line event e = read_known (is_skipped line) (event_in g line) event (line_known line) e
