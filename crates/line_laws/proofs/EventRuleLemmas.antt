-- A line of an event text is refused by the first rule that it breaks.
use Rattle.std.proofs.Common.{◌≡◌, ℕ, Bool, true, false, List, [], ◌∷◌, length, refl, sym, ap, ◌∙◌, subst, arith}
use Rattle.std.specs.Prelude.{◌↔◌, ◌&&◌, ◌||◌, not, nat_lt, Option, Some, None, is_none, Result, Ok, Err, codes, position, option_map, ok_or, if◌then◌else◌}
use Rattle.std.specs.Str.{bytes_eq}
use Rattle.std.proofs.lemmas.Bool.{false≢true, lt-ltb}
use Rattle.std.proofs.lemmas.Option.{none-some}
use Rattle.grid_model.specs.Parts.{Parts}
use Rattle.grid_model.specs.Name.{is_name}
use Rattle.grid_model.specs.Names.{name_eq}
use Rattle.grid_model.specs.Places.{meter_id, device_id}
use Rattle.grid_model.specs.declared.parts.MeterId.{MeterId}
use Rattle.grid_model.specs.declared.parts.DeviceId.{DeviceId}
use Rattle.grid_model.specs.declared.history.Event.{Event}
use Rattle.grid_model.specs.declared.history.What.{What}
use Rattle.grid_model.specs.declared.history.What.TheVariants as what
use Rattle.grid_model.specs.declared.history.Want.TheVariants as want
use Rattle.grid_model.specs.declared.history.Confirmed.TheVariants as confirmed
use Rattle.event_rules.specs.declared.read_rule.ReadRule.{ReadRule}
use Rattle.event_rules.specs.declared.read_rule.ReadRule.TheVariants.{TooLong, BadFields, BadWord, BadTime, BadName, UnknownMeter, UnknownDevice}
use Rattle.event_rules.specs.Lines.{is_skipped, most_line}
use Rattle.event_rules.specs.Fields.{between_commas, has_no_fields}
use Rattle.event_rules.specs.Stamps.{stamp_of}
use Rattle.event_rules.specs.EventLines.{Shape, AtMeter, AtDevice, AtNone, is_event_word, misfit, lone_shape, named_shape, ping_shape, confirm_shape, detailed_shape, shape_of, meter_named, device_named, at_found, event_at, event_of_shape, event_of_fields, event_in, IsSkipped, IsEvent, IsRefused, reading_of, event_reading}
use Rattle.line_laws.specs.FirstRule.{Tried, Where, first_broken}
use Rattle.line_laws.specs.EventRules.{has_bad_count, has_bad_word, has_bad_time, has_bad_name, names_no_meter, names_no_device, event_rules, FirstRuleRefuses}
use Rattle.line_laws.proofs.EventWords.{IsOther, by_word, no_word}

abbrev rule_in : Result Event ReadRule → Option ReadRule
rule_in (Ok event) = None
rule_in (Err rule) = Some rule

-- the rules behind those on the word
abbrev last_rules : Parts → List (List ℕ) → List (Tried ReadRule)
last_rules g fields =
    Where BadTime (has_bad_time fields)
    ∷ Where BadName (has_bad_name fields)
    ∷ Where UnknownMeter (names_no_meter g fields)
    ∷ Where UnknownDevice (names_no_device g fields)
    ∷ []

-- and behind those on the length and the fields
abbrev later_rules : Parts → List (List ℕ) → List (Tried ReadRule)
later_rules g fields = Where BadWord (has_bad_word fields) ∷ last_rules g fields

-- the rules on the time and on a name, by what is found
abbrev rules_of_place : ReadRule → Option ℕ → Bool → Option ℕ → List (Tried ReadRule)
rules_of_place unknown time named place = Where BadTime (is_none time) ∷ Where BadName (not named) ∷ Where unknown (is_none place) ∷ []

at_place : {Id : Type 0} (id : ℕ → Id) (make : Id → What) (unknown : ReadRule) (time : Option ℕ) (named : Bool) (place : Option ℕ) →
    rule_in (event_at time (at_found make (if named then ok_or (option_map id place) unknown else Err BadName))) ≡ first_broken (rules_of_place unknown time named place)
at_place id make unknown None named place = refl
at_place id make unknown (Some t) false place = refl
at_place id make unknown (Some t) true None = refl
at_place id make unknown (Some t) true (Some k) = refl

at_no_place : (time : Option ℕ) (w : What) → rule_in (event_at time (Ok w)) ≡ first_broken (Where BadTime (is_none time) ∷ [])
at_no_place None w = refl
at_no_place (Some t) w = refl

-- where the word is none of an event, and the count of the fields may stand
no_such_word : (known count answer : Bool) (rules : List (Tried ReadRule)) → known ≡ false →
    Some BadWord ≡ first_broken (Where BadFields (known && count) ∷ Where BadWord (not known || answer) ∷ rules)
no_such_word true count answer rules e = absurd (false≢true (sym e))
no_such_word false count answer rules e = refl

too_many : (few many other : Bool) (rules : List (Tried ReadRule)) → many ≡ true → Some BadFields ≡ first_broken (Where BadFields (few || (many || other)) ∷ rules)
too_many true many other rules e = refl
too_many false true other rules e = refl
too_many false false other rules e = absurd (false≢true e)

abbrev named_by : Bool → Bool → Bool → Bool → Bool → Bool → List ℕ → Result Shape ReadRule → Result Shape ReadRule
named_by a b c d e f name other =
    if a then Ok (AtMeter (λ m. what.Call m) name)
    else (if b then Ok (AtMeter (λ m. what.Gasp m) name)
    else (if c then Ok (AtMeter (λ m. what.Powerup m) name)
    else (if d then Ok (AtDevice (λ d. what.Restore d) name)
    else (if e then Ok (AtDevice (λ d. what.Order d want.Opened) name)
    else (if f then Ok (AtDevice (λ d. what.Order d want.Closed) name) else other)))))

not_named : (a b c d e f : Bool) (name : List ℕ) (other : Result Shape ReadRule) →
    a ≡ false → b ≡ false → c ≡ false → d ≡ false → e ≡ false → f ≡ false → named_by a b c d e f name other ≡ other
not_named true b c d e f name other x1 x2 x3 x4 x5 x6 = absurd (false≢true (sym x1))
not_named false true c d e f name other x1 x2 x3 x4 x5 x6 = absurd (false≢true (sym x2))
not_named false false true d e f name other x1 x2 x3 x4 x5 x6 = absurd (false≢true (sym x3))
not_named false false false true e f name other x1 x2 x3 x4 x5 x6 = absurd (false≢true (sym x4))
not_named false false false false true f name other x1 x2 x3 x4 x5 x6 = absurd (false≢true (sym x5))
not_named false false false false false true name other x1 x2 x3 x4 x5 x6 = absurd (false≢true (sym x6))
not_named false false false false false false name other x1 x2 x3 x4 x5 x6 = refl

abbrev detailed_by : Bool → Bool → Result Shape ReadRule → Result Shape ReadRule → Result Shape ReadRule → Result Shape ReadRule
detailed_by a b ping confirm other = if a then ping else (if b then confirm else other)

not_detailed : (a b : Bool) (ping confirm other : Result Shape ReadRule) → a ≡ false → b ≡ false → detailed_by a b ping confirm other ≡ other
not_detailed true b ping confirm other x y = absurd (false≢true (sym x))
not_detailed false true ping confirm other x y = absurd (false≢true (sym y))
not_detailed false false ping confirm other x y = refl

abbrev rules_of : Parts → List (List ℕ) → List (Tried ReadRule)
rules_of g fields = Where BadFields (has_bad_count fields) ∷ later_rules g fields

-- the fields break the first rule that fits
abbrev IsFirst : Parts → List ℕ → List ℕ → List (List ℕ) → Type 0
IsFirst g time word rest = rule_in (event_of_shape g time (shape_of word rest)) ≡ first_broken (rules_of g (time ∷ word ∷ rest))

module _ (g : Parts) (time : List ℕ) where
  meter_at : (make : MeterId → What) (name : List ℕ) → rule_in (event_of_shape g time (Ok (AtMeter make name)))
      ≡ first_broken (rules_of_place UnknownMeter (stamp_of time) (is_name name) (position (λ m. name_eq name m.name) g.meters))
  unfolding meter_named
  meter_at make name = at_place meter_id make UnknownMeter (stamp_of time) (is_name name) (position (λ m. name_eq name m.name) g.meters)

  device_at : (make : DeviceId → What) (name : List ℕ) → rule_in (event_of_shape g time (Ok (AtDevice make name)))
      ≡ first_broken (rules_of_place UnknownDevice (stamp_of time) (is_name name) (position (λ d. name_eq name d.name) g.devices))
  unfolding device_named
  device_at make name = at_place device_id make UnknownDevice (stamp_of time) (is_name name) (position (λ d. name_eq name d.name) g.devices)

  many : (word a b c : List ℕ) (rest : List (List ℕ)) → IsFirst g time word (a ∷ b ∷ c ∷ rest)
  many word a b c rest =
      let fields = time ∷ word ∷ a ∷ b ∷ c ∷ rest in
      too_many (nat_lt (length fields) 2) (nat_lt 4 (length fields)) _ (later_rules g fields) (lt-ltb 4 (length fields) (omega arith))

  misfit_is : (word : List ℕ) → is_event_word word ≡ false → rule_in (event_of_shape g time (misfit word)) ≡ Some BadWord
  unfolding misfit
  misfit_is word e = ap (λ b. rule_in (event_of_shape g time (Err (if b then BadFields else BadWord)))) e

  by_up : (up down : Bool) (name : List ℕ) (rules : List (Tried ReadRule)) → ((make : MeterId → What) → rule_in (event_of_shape g time (Ok (AtMeter make name))) ≡ first_broken rules) →
      rule_in (event_of_shape g time (if up then Ok (AtMeter (λ m. what.PingUp m) name) else (if down then Ok (AtMeter (λ m. what.PingDown m) name) else Err BadWord)))
      ≡ first_broken (Where BadWord (not (up || (down || false)) || false) ∷ rules)
  by_up true down name rules at = at (λ m. what.PingUp m)
  by_up false true name rules at = at (λ m. what.PingDown m)
  by_up false false name rules at = refl

  by_finding : (a b c : Bool) (name : List ℕ) (rules : List (Tried ReadRule)) → ((make : DeviceId → What) → rule_in (event_of_shape g time (Ok (AtDevice make name))) ≡ first_broken rules) →
      rule_in (event_of_shape g time (if a then Ok (AtDevice (λ d. what.Confirm d confirmed.Opened) name)
      else (if b then Ok (AtDevice (λ d. what.Confirm d confirmed.Fine) name)
      else (if c then Ok (AtDevice (λ d. what.Confirm d confirmed.Cleared) name) else Err BadWord))))
      ≡ first_broken (Where BadWord (not (a || (b || (c || false)))) ∷ rules)
  by_finding true b c name rules at = at (λ d. what.Confirm d confirmed.Opened)
  by_finding false true c name rules at = at (λ d. what.Confirm d confirmed.Fine)
  by_finding false false true name rules at = at (λ d. what.Confirm d confirmed.Cleared)
  by_finding false false false name rules at = refl

  clock : (rest : List (List ℕ)) → IsFirst g time (codes "clock") rest
  unfolding lone_shape named_shape detailed_shape misfit
  clock [] = at_no_place (stamp_of time) what.Clock
  clock (name ∷ []) = refl
  clock (name ∷ detail ∷ []) = refl
  clock (name ∷ detail ∷ more ∷ rest) = many (codes "clock") name detail more rest

  call : (rest : List (List ℕ)) → IsFirst g time (codes "call") rest
  unfolding lone_shape named_shape detailed_shape misfit
  call [] = refl
  call (name ∷ []) = meter_at (λ m. what.Call m) name
  call (name ∷ detail ∷ []) = refl
  call (name ∷ detail ∷ more ∷ rest) = many (codes "call") name detail more rest

  gasp : (rest : List (List ℕ)) → IsFirst g time (codes "gasp") rest
  unfolding lone_shape named_shape detailed_shape misfit
  gasp [] = refl
  gasp (name ∷ []) = meter_at (λ m. what.Gasp m) name
  gasp (name ∷ detail ∷ []) = refl
  gasp (name ∷ detail ∷ more ∷ rest) = many (codes "gasp") name detail more rest

  powerup : (rest : List (List ℕ)) → IsFirst g time (codes "powerup") rest
  unfolding lone_shape named_shape detailed_shape misfit
  powerup [] = refl
  powerup (name ∷ []) = meter_at (λ m. what.Powerup m) name
  powerup (name ∷ detail ∷ []) = refl
  powerup (name ∷ detail ∷ more ∷ rest) = many (codes "powerup") name detail more rest

  restore : (rest : List (List ℕ)) → IsFirst g time (codes "restore") rest
  unfolding lone_shape named_shape detailed_shape misfit
  restore [] = refl
  restore (name ∷ []) = device_at (λ d. what.Restore d) name
  restore (name ∷ detail ∷ []) = refl
  restore (name ∷ detail ∷ more ∷ rest) = many (codes "restore") name detail more rest

  opens : (rest : List (List ℕ)) → IsFirst g time (codes "open") rest
  unfolding lone_shape named_shape detailed_shape misfit
  opens [] = refl
  opens (name ∷ []) = device_at (λ d. what.Order d want.Opened) name
  opens (name ∷ detail ∷ []) = refl
  opens (name ∷ detail ∷ more ∷ rest) = many (codes "open") name detail more rest

  closes : (rest : List (List ℕ)) → IsFirst g time (codes "close") rest
  unfolding lone_shape named_shape detailed_shape misfit
  closes [] = refl
  closes (name ∷ []) = device_at (λ d. what.Order d want.Closed) name
  closes (name ∷ detail ∷ []) = refl
  closes (name ∷ detail ∷ more ∷ rest) = many (codes "close") name detail more rest

  ping : (rest : List (List ℕ)) → IsFirst g time (codes "ping") rest
  unfolding lone_shape named_shape detailed_shape misfit
  ping [] = refl
  ping (name ∷ []) = refl
  ping (name ∷ detail ∷ []) =
      by_up (bytes_eq detail (codes "up")) (bytes_eq detail (codes "down")) name
      (rules_of_place UnknownMeter (stamp_of time) (is_name name) (position (λ m. name_eq name m.name) g.meters)) (λ make. meter_at make name)
  ping (name ∷ detail ∷ more ∷ rest) = many (codes "ping") name detail more rest

  confirm : (rest : List (List ℕ)) → IsFirst g time (codes "confirm") rest
  unfolding lone_shape named_shape detailed_shape misfit
  confirm [] = refl
  confirm (name ∷ []) = refl
  confirm (name ∷ detail ∷ []) =
      by_finding (bytes_eq detail (codes "open")) (bytes_eq detail (codes "ok")) (bytes_eq detail (codes "clear")) name
      (rules_of_place UnknownDevice (stamp_of time) (is_name name) (position (λ d. name_eq name d.name) g.devices)) (λ make. device_at make name)
  confirm (name ∷ detail ∷ more ∷ rest) = many (codes "confirm") name detail more rest

  lone_other : (word : List ℕ) → IsOther word → lone_shape word ≡ misfit word
  unfolding lone_shape
  lone_other word o = ap (λ b. if b then Ok (AtNone what.Clock) else misfit word) o.clock

  named_other : (word name : List ℕ) → IsOther word → named_shape word name ≡ misfit word
  unfolding named_shape
  named_other word name o =
      not_named (bytes_eq word (codes "call")) (bytes_eq word (codes "gasp")) (bytes_eq word (codes "powerup")) (bytes_eq word (codes "restore"))
      (bytes_eq word (codes "open")) (bytes_eq word (codes "close")) name (misfit word) o.call o.gasp o.powerup o.restore o.opens o.closes

  detailed_other : (word name detail : List ℕ) → IsOther word → detailed_shape word name detail ≡ misfit word
  unfolding detailed_shape
  detailed_other word name detail o =
      not_detailed (bytes_eq word (codes "ping")) (bytes_eq word (codes "confirm")) (ping_shape name detail) (confirm_shape name detail) (misfit word) o.ping o.confirm

  -- another word is refused, whatever stands behind it
  other : (word : List ℕ) → IsOther word → (rest : List (List ℕ)) → IsFirst g time word rest
  other word o [] =
      ap (λ s. rule_in (event_of_shape g time s)) (lone_other word o) ∙ misfit_is word (no_word word o)
      ∙ no_such_word (is_event_word word) _ _ (last_rules g (time ∷ word ∷ [])) (no_word word o)
  other word o (name ∷ []) =
      ap (λ s. rule_in (event_of_shape g time s)) (named_other word name o) ∙ misfit_is word (no_word word o)
      ∙ no_such_word (is_event_word word) _ _ (last_rules g (time ∷ word ∷ name ∷ [])) (no_word word o)
  other word o (name ∷ detail ∷ []) =
      ap (λ s. rule_in (event_of_shape g time s)) (detailed_other word name detail o) ∙ misfit_is word (no_word word o)
      ∙ no_such_word (is_event_word word) _ _ (last_rules g (time ∷ word ∷ name ∷ detail ∷ [])) (no_word word o)
  other word o (name ∷ detail ∷ more ∷ rest) = many word name detail more rest

  of_words : (word : List ℕ) (rest : List (List ℕ)) → IsFirst g time word rest
  of_words word = by_word (λ w. (rest : List (List ℕ)) → IsFirst g time w rest)
      (record { call = call; gasp = gasp; ping = ping; powerup = powerup; confirm = confirm; restore = restore; opens = opens; closes = closes; clock = clock; other = other })
      word

of_fields : (g : Parts) (fields : List (List ℕ)) → rule_in (event_of_fields g fields) ≡ first_broken (rules_of g fields)
of_fields g [] = refl
of_fields g (time ∷ []) = refl
of_fields g (time ∷ word ∷ rest) = of_words g time word rest

-- the length and the fields come first
behind : (long empty count : Bool) (r : Result Event ReadRule) (rules : List (Tried ReadRule)) → rule_in r ≡ first_broken (Where BadFields count ∷ rules) →
    rule_in (if long then Err TooLong else (if empty then Err BadFields else r)) ≡ first_broken (Where TooLong long ∷ Where BadFields (empty || count) ∷ rules)
behind true empty count r rules e = refl
behind false true count r rules e = refl
behind false false count r rules e = e

in_order : (g : Parts) (line : List ℕ) → rule_in (event_in g line) ≡ first_broken (event_rules g line)
in_order g line =
    let fields = between_commas line in
    behind (nat_lt most_line (length line)) (has_no_fields line) (has_bad_count fields) (event_of_fields g fields) (later_rules g fields) (of_fields g fields)

-- what is read, by whether the line is skipped and by its rule
skipped_by : (skipped : Bool) (r : Result Event ReadRule) → ((if skipped then IsSkipped else reading_of r) ≡ IsSkipped) ↔ (skipped ≡ true)
skipped_by true r = (λ e. refl, λ e. refl)
skipped_by false (Ok e) = (λ s. cc, λ s. cc)
skipped_by false (Err rule) = (λ s. cc, λ s. cc)

refused_by : (skipped : Bool) (r : Result Event ReadRule) (rule : ReadRule) → ((if skipped then IsSkipped else reading_of r) ≡ IsRefused rule) ↔ ((skipped ≡ false) × (rule_in r ≡ Some rule))
refused_by true r rule = (λ s. absurd (let x : ⊥ = cc in x), λ s. absurd (false≢true (sym s.0)))
refused_by false (Ok e) rule = (λ s. absurd (let x : ⊥ = cc in x), λ s. absurd (none-some rule s.1))
refused_by false (Err broken) rule = (λ s. (refl, cc), λ s. let e = s.1 in cc)

event_by : (skipped : Bool) (r : Result Event ReadRule) → ((e : Event) × ((if skipped then IsSkipped else reading_of r) ≡ IsEvent e)) ↔ ((skipped ≡ false) × (rule_in r ≡ None))
event_by true r = (λ s. let e = s.1 in absurd (let x : ⊥ = cc in x), λ s. absurd (false≢true (sym s.0)))
event_by false (Ok e) = (λ s. (refl, refl), λ s. (e, refl))
event_by false (Err rule) = (λ s. let e = s.1 in absurd (let x : ⊥ = cc in x), λ s. absurd (none-some rule (sym s.1)))

pub first_rule_refuses : (g : Parts) (line : List ℕ) → FirstRuleRefuses g line
unfolding event_reading
first_rule_refuses g line = record {
  skipped = skipped_by (is_skipped line) (event_in g line);
  refused = λ rule. subst (λ o. (event_reading g line ≡ IsRefused rule) ↔ ((is_skipped line ≡ false) × (o ≡ Some rule))) (in_order g line) (refused_by (is_skipped line) (event_in g line) rule);
  event = subst (λ o. ((e : Event) × (event_reading g line ≡ IsEvent e)) ↔ ((is_skipped line ≡ false) × (o ≡ None))) (in_order g line) (event_by (is_skipped line) (event_in g line));
}
