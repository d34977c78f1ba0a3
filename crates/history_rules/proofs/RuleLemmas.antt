-- Each line is skipped, refused by the rule that it breaks, or applied.
use Rattle.std.proofs.Common.{◌≡◌, ℕ, ◌<◌, ◌≤◌, Bool, true, false, List, [], ◌∷◌, ◌++◌, refl, sym, ap, ◌∙◌, subst, length, arith}
use Rattle.std.specs.Prelude.{◌↔◌, ◌≢◌, ◌==◌, ◌&&◌, not, nat_lt, nat_le, Option, Some, None, Result, Ok, Err, option_map, ok_or, if◌then◌else◌}
use Rattle.std.proofs.lemmas.Bool.{false≢true, and_parts, and_from, and_left, or_parts, or_from, not_from_false, eqb-true, eq-eqb, ne_eqb, leb-true, ltb-true, ltb-false, lt-ltb, le-ltb, cond_both, false_from_ne_true}
use Rattle.std.proofs.lemmas.Option.{none-some}
use Rattle.std.proofs.lemmas.List.Quantifiers.{position-Some}
use Rattle.grid_model.specs.Names.{name_eq}
use Rattle.outage_rules.specs.Loops.{would_loop}
use Rattle.outage_rules.proofs.Loops.{looped_by_walks}
use Rattle.grid_model.specs.Parts.{Parts}
use Rattle.grid_model.specs.Sound.{IsSoundParts}
use Rattle.grid_model.specs.Name.{is_name}
use Rattle.grid_model.specs.Places.{no_device, device_id}
use Rattle.grid_model.specs.declared.history.Event.{Event}
use Rattle.grid_model.specs.declared.history.Refusal.{Refusal}
use Rattle.grid_model.specs.declared.history.Refusal.TheVariants.{Backwards, NotClosed, Loop}
use Rattle.grid_model.specs.declared.history.What.{What}
use Rattle.grid_model.specs.declared.history.What.TheVariants.{Confirm, Restore, Order}
use Rattle.grid_model.specs.declared.history.Want.{Want}
use Rattle.grid_model.specs.declared.history.Want.TheVariants as want
use Rattle.event_rules.specs.declared.read_rule.ReadRule.{ReadRule}
use Rattle.event_rules.specs.declared.read_rule.ReadRule.TheVariants.{TooLong, BadFields, BadName, UnknownDevice}
use Rattle.event_rules.specs.Lines.{is_empty, begins_with, most_line, is_skipped}
use Rattle.event_rules.specs.Decimals.{is_digit}
use Rattle.event_rules.specs.Fields.{parts_from, between_commas, has_no_fields}
use Rattle.event_rules.specs.Stamps.{has_stamp_shape, year_in, two_at, second_since_1970, stamp_of}
use Rattle.event_rules.specs.EventLines.{AtDevice, named_shape, shape_of, device_named, at_found, event_at, event_of_shape, event_of_fields, event_in, EventReading, IsSkipped, IsEvent, IsRefused, reading_of, event_reading}
use Rattle.history_rules.specs.State.{now, is_closed, network_after}
use Rattle.history_rules.specs.Posed.{names_open, loops_by, loops, refusal_of, IsOfGrid}
use Rattle.history_rules.specs.Run.{Unread, Unapplied, Outcome, Skips, Refuses, Applies, outcome_by, outcome_after, outcome_of, history_by}
use Rattle.history_rules.specs.RunLaws.{FollowsRules, order_word, IsTimelyOrder, device_of, ClosesLoop, OrdersLoop, order_at, OrderIsJudged, LinesFollowRules}
use Rattle.history_rules.proofs.TimelyLemmas.{first_refusal, no_rule_fits}
use Rattle.history_rules.proofs.RadialLemmas.{sound_after}
use Rattle.history_rules.proofs.RunLemmas.{names_part}

-- what becomes of an event, by which of the rules fit it
backwards_by : (e : Event) (a b c : Bool) → (outcome_by e (first_refusal a b c) ≡ Refuses (Unapplied Backwards)) ↔ (a ≡ true)
backwards_by e true b c = (λ s. refl, λ s. refl)
backwards_by e false true c = (λ s. cc, λ s. cc)
backwards_by e false false true = (λ s. cc, λ s. cc)
backwards_by e false false false = (λ s. cc, λ s. cc)

not_closed_by : (e : Event) (a b c : Bool) → (outcome_by e (first_refusal a b c) ≡ Refuses (Unapplied NotClosed)) ↔ ((a ≡ false) × (b ≡ true))
not_closed_by e true b c = (λ s. absurd (let x : ⊥ = cc in x), λ s. absurd (false≢true (sym s.0)))
not_closed_by e false true c = (λ s. (refl, refl), λ s. refl)
not_closed_by e false false true = (λ s. absurd (let x : ⊥ = cc in x), λ s. absurd (false≢true s.1))
not_closed_by e false false false = (λ s. absurd (let x : ⊥ = cc in x), λ s. absurd (false≢true s.1))

loop_by : (e : Event) (a b c : Bool) → (outcome_by e (first_refusal a b c) ≡ Refuses (Unapplied Loop)) ↔ ((a ≡ false) × (b ≡ false) × (c ≡ true))
loop_by e true b c = (λ s. absurd (let x : ⊥ = cc in x), λ s. absurd (false≢true (sym s.0)))
loop_by e false true c = (λ s. absurd (let x : ⊥ = cc in x), λ s. absurd (false≢true (sym s.1)))
loop_by e false false true = (λ s. (refl, refl, refl), λ s. refl)
loop_by e false false false = (λ s. absurd (let x : ⊥ = cc in x), λ s. absurd (false≢true s.2))

none_by : (a b c : Bool) → a ≡ false → b ≡ false → c ≡ false → first_refusal a b c ≡ None
none_by true b c x y z = absurd (false≢true (sym x))
none_by false true c x y z = absurd (false≢true (sym y))
none_by false false true x y z = absurd (false≢true (sym z))
none_by false false false x y z = refl

never_unread : (e : Event) (o : Option Refusal) (rule : ReadRule) → outcome_by e o ≡ Refuses (Unread rule) → ⊥
never_unread e None rule s = cc
never_unread e (Some fits) rule s = cc

never_skipped : (e : Event) (o : Option Refusal) → outcome_by e o ≡ Skips → ⊥
never_skipped e None s = cc
never_skipped e (Some fits) s = cc

applies_by : (x e : Event) (o : Option Refusal) → outcome_by x o ≡ Applies e → (x ≡ e) × (o ≡ None)
applies_by x e None s = (cc, refl)
applies_by x e (Some fits) s = absurd (let y : ⊥ = cc in y)

-- no event both names an open device and closes a loop
loops_apart : (g : Parts) (h : List Event) (w : What) → loops g h w ≡ true → names_open g h w ≡ false
loops_apart g h (Confirm x c) e = absurd (false≢true e)
loops_apart g h (Restore x) e = absurd (false≢true e)
loops_apart g h _ e = refl

module _ (g : Parts) (h : List Event) where
  backwards_at : (e : Event) → (outcome_by e (refusal_of g h e) ≡ Refuses (Unapplied Backwards)) ↔ (e.time.0 < now h)
  unfolding refusal_of
  backwards_at e =
      let by = backwards_by e (nat_lt e.time.0 (now h)) (names_open g h e.what) (loops g h e.what) in
      (λ s. ltb-true e.time.0 (now h) (by.0 s), λ l. by.1 (lt-ltb e.time.0 (now h) l))

  not_closed_at : (e : Event) → (outcome_by e (refusal_of g h e) ≡ Refuses (Unapplied NotClosed)) ↔ ((now h ≤ e.time.0) × (names_open g h e.what ≡ true))
  unfolding refusal_of
  not_closed_at e =
      let by = not_closed_by e (nat_lt e.time.0 (now h)) (names_open g h e.what) (loops g h e.what) in
      (λ s. (ltb-false e.time.0 (now h) (by.0 s).0, (by.0 s).1), λ x. by.1 (le-ltb e.time.0 (now h) x.0, x.1))

  loop_at : (e : Event) → (outcome_by e (refusal_of g h e) ≡ Refuses (Unapplied Loop)) ↔ ((now h ≤ e.time.0) × (loops g h e.what ≡ true))
  unfolding refusal_of
  loop_at e =
      let by = loop_by e (nat_lt e.time.0 (now h)) (names_open g h e.what) (loops g h e.what) in
      (λ s. (ltb-false e.time.0 (now h) (by.0 s).0, (by.0 s).2), λ x. by.1 (le-ltb e.time.0 (now h) x.0, loops_apart g h e.what x.1, x.1))

  none_at : (e : Event) → now h ≤ e.time.0 → names_open g h e.what ≡ false → loops g h e.what ≡ false → refusal_of g h e ≡ None
  unfolding refusal_of
  none_at e l x y = none_by (nat_lt e.time.0 (now h)) (names_open g h e.what) (loops g h e.what) (le-ltb e.time.0 (now h) l) x y

  open_from : (b : Bool) → not b ≡ true → b ≡ false
  open_from true e = absurd (false≢true e)
  open_from false e = refl

  -- an order closes a loop by the test exactly where it does by walks
  closes : IsSoundParts g → (d : ℕ) → d < length g.devices → (w : Want) → (loops_by g h d w ≡ true) ↔ ClosesLoop g h d w
  closes sound d l want.Opened = (λ s. absurd (false≢true s), λ c. let e = c.0 in absurd (let x : ⊥ = cc in x))
  closes sound d l want.Closed =
      let walks = looped_by_walks (network_after g h) (sound_after g h sound) d l in (
        λ s. let both = and_parts (not (is_closed g h d)) (would_loop (network_after g h) d) s in (refl, open_from (is_closed g h d) both.0, walks.0 both.1),
        λ c. and_from (not (is_closed g h d)) (would_loop (network_after g h) d) (not_from_false (is_closed g h d) c.1) (walks.1 c.2),
      )

  -- and so does an event
  orders : IsSoundParts g → (w : What) → IsOfGrid g w → (loops g h w ≡ true) ↔ OrdersLoop g h w
  orders sound (Order x w) l = closes sound x.0 l w
  orders sound _ l = (λ s. absurd (false≢true s), λ c. absurd c)

  -- an event is applied where no rule fits
  fits_none : (e : Event) → IsSoundParts g → IsOfGrid g e.what → (refusal_of g h e ≡ None) ↔ ((now h ≤ e.time.0) × (names_open g h e.what ≡ false) × (OrdersLoop g h e.what → ⊥))
  fits_none e sound l =
      let by = orders sound e.what l in (
        λ s. let free = no_rule_fits g h e s in (ltb-false e.time.0 (now h) free.0, free.1, λ c. false≢true (sym free.2 ∙ by.1 c)),
        λ x. none_at e x.0 x.1 (false_from_ne_true (loops g h e.what) (λ s. x.2 (by.0 s))),
      )

  -- a line is refused by a rule on its event exactly where it is an event that the rule refuses
  by_event : (r : EventReading) (rule : Refusal) (P : Event → Type 0) → ((e : Event) → (outcome_by e (refusal_of g h e) ≡ Refuses (Unapplied rule)) ↔ P e) →
      (outcome_after g h r ≡ Refuses (Unapplied rule)) ↔ ((e : Event) × (r ≡ IsEvent e) × P e)
  by_event IsSkipped rule P judged = (λ s. absurd (let x : ⊥ = cc in x), λ x. let e = x.1 in absurd (let y : ⊥ = cc in y))
  by_event (IsRefused other) rule P judged = (λ s. absurd (let x : ⊥ = cc in x), λ x. let e = x.1 in absurd (let y : ⊥ = cc in y))
  by_event (IsEvent e) rule P judged =
      (λ s. (e, refl, (judged e).0 s), λ x. (judged e).1 (let same : x.0 ≡ e = (let s = x.1 in cc) in subst P same x.2))

  unread_after : (r : EventReading) (rule : ReadRule) → (outcome_after g h r ≡ Refuses (Unread rule)) ↔ (r ≡ IsRefused rule)
  unread_after IsSkipped rule = (λ s. cc, λ s. cc)
  unread_after (IsRefused other) rule = (λ s. cc, λ s. cc)
  unread_after (IsEvent e) rule = (λ s. absurd (never_unread e (refusal_of g h e) rule s), λ s. cc)

  applied_after : (r : EventReading) (e : Event) → (outcome_after g h r ≡ Applies e) ↔ ((r ≡ IsEvent e) × (refusal_of g h e ≡ None))
  applied_after IsSkipped e = (λ s. absurd (let x : ⊥ = cc in x), λ x. let s = x.0 in cc)
  applied_after (IsRefused rule) e = (λ s. absurd (let x : ⊥ = cc in x), λ x. let s = x.0 in cc)
  applied_after (IsEvent x) e = (
    λ s. let a = applies_by x e (refusal_of g h x) s in (ap IsEvent a.0, subst (λ y. refusal_of g h y ≡ None) a.0 a.1),
    λ a. let same : e ≡ x = (let s = a.0 in cc) in ap (outcome_by x) (subst (λ y. refusal_of g h y ≡ None) same a.1) ∙ ap Applies (sym same),
  )

  skips_by : (skipped : Bool) (r : Result Event ReadRule) → (outcome_after g h (if skipped then IsSkipped else reading_of r) ≡ Skips) ↔ (skipped ≡ true)
  skips_by true r = (λ s. refl, λ s. refl)
  skips_by false (Ok e) = (λ s. absurd (never_skipped e (refusal_of g h e) s), λ s. absurd (false≢true s))
  skips_by false (Err rule) = (λ s. cc, λ s. cc)

  skips : (line : List ℕ) → (outcome_of g h line ≡ Skips) ↔ (is_skipped line ≡ true)
  unfolding outcome_of event_reading
  skips line = skips_by (is_skipped line) (event_in g line)

  keeps_by : (o : Outcome) → ((e : Event) → o ≢ Applies e) → history_by h o ≡ h
  keeps_by Skips never = refl
  keeps_by (Refuses rule) never = refl
  keeps_by (Applies e) never = absurd (never e refl)

  follows : (line : List ℕ) → FollowsRules g h line
  unfolding outcome_of
  follows line =
      let r = event_reading g line in
      let second = by_event r NotClosed (λ e. (now h ≤ e.time.0) × (names_open g h e.what ≡ true)) not_closed_at in
      let third = by_event r Loop (λ e. (now h ≤ e.time.0) × (loops g h e.what ≡ true)) loop_at in
      record {
        skipped = skips line;
        unread = λ rule. unread_after r rule;
        backwards = by_event r Backwards (λ e. e.time.0 < now h) backwards_at;
        not_closed = (λ s. let x = second.0 s in (x.0, x.1, x.2.0, x.2.1), λ x. second.1 (x.0, x.1, (x.2, x.3)));
        loop = λ sound. (
          λ s. let x = third.0 s in (x.0, x.1, x.2.0, (orders sound x.0.what (names_part g line x.0 x.1)).0 x.2.1),
          λ x. third.1 (x.0, x.1, (x.2, (orders sound x.0.what (names_part g line x.0 x.1)).1 x.3)),
        );
        applied = λ e. applied_after r e;
        free = λ sound e. (
          λ s. let x = (applied_after r e).0 s in let free = (fits_none e sound (names_part g line e x.0)).0 x.1 in (x.0, free.0, free.1, free.2),
          λ x. (applied_after r e).1 (x.0, (fits_none e sound (names_part g line e x.0)).1 (x.1, x.2, x.3)),
        );
        keeps = λ never. keeps_by (outcome_of g h line) never;
      }

-- the first part of a line begins as the line does
abbrev first_begins : ℕ → List (List ℕ) → Bool
first_begins b [] = false
first_begins b (part ∷ parts) = begins_with b part

keeps_front : (rest part : List ℕ) (b : ℕ) → first_begins b (parts_from (b ∷ part) rest) ≡ true
unfolding parts_from
keeps_front [] part b = eq-eqb b b refl
keeps_front (c ∷ rest) part b =
    cond_both (c == 44) ((b ∷ part) ∷ parts_from [] rest) (parts_from (b ∷ (part ++ c ∷ [])) rest) (λ parts. first_begins b parts ≡ true)
    (λ e. eq-eqb b b refl) (λ e. keeps_front rest (part ++ c ∷ []) b)

front_of : (line : List ℕ) → begins_with 35 line ≡ true → first_begins 35 (between_commas line) ≡ true
unfolding parts_from
front_of [] e = absurd (false≢true e)
front_of (c ∷ rest) e = subst (λ x. first_begins 35 (parts_from [] (x ∷ rest)) ≡ true) (sym (eqb-true c 35 e)) (keeps_front rest [] 35)

-- a stamp begins with a digit
begins_with_digit : (time : List ℕ) → has_stamp_shape time ≡ true → begins_with 35 time ≡ false
begins_with_digit [] e = refl
begins_with_digit (c ∷ rest) e =
    let digit : is_digit c ≡ true = (and_parts (is_digit c) _ e).0 in
    let least = leb-true 48 c (and_parts (nat_le 48 c) (nat_le c 57) digit).0 in
    ne_eqb c 35 (λ s. absurd (let s' : c ≡ 35 = s in omega arith))

shaped_by : (shaped : Bool) (o : Option ℕ) (at : ℕ) → (if shaped then o else None) ≡ Some at → shaped ≡ true
shaped_by true o at e = refl
shaped_by false o at e = absurd (none-some at e)

is_shaped : (time : List ℕ) (at : ℕ) → stamp_of time ≡ Some at → has_stamp_shape time ≡ true
unfolding stamp_of
is_shaped time at e =
    shaped_by (has_stamp_shape time) (second_since_1970 (year_in time) (two_at time 5) (two_at time 8) (two_at time 11) (two_at time 14) (two_at time 17)) at e

-- so a line whose first field is a stamp isn't skipped
counts : (line time : List ℕ) (rest : List (List ℕ)) (at : ℕ) → has_no_fields line ≡ false → between_commas line ≡ time ∷ rest → stamp_of time ≡ Some at → is_skipped line ≡ false
counts line time rest at full fields stamp =
    let front : begins_with 35 line ≡ false = false_from_ne_true (begins_with 35 line)
    (λ e. false≢true (sym (begins_with_digit time (is_shaped time at stamp)) ∙ (ap (first_begins 35) (sym fields) ∙ front_of line e))) in
    or_from (is_empty line) (begins_with 35 line && nat_le (length line) most_line)
    (or_parts (is_empty line) _ full).0 (and_left (begins_with 35 line) (nat_le (length line) most_line) front)

abbrev order_reading : ℕ → Want → Option ℕ → EventReading
order_reading at wanted None = IsRefused UnknownDevice
order_reading at wanted (Some d) = IsEvent (order_at at d wanted)

order_shape : (wanted : Want) (name : List ℕ) → shape_of (order_word wanted) (name ∷ []) ≡ Ok (AtDevice (λ d. Order d wanted) name)
unfolding named_shape
order_shape want.Opened name = refl
order_shape want.Closed name = refl

found : (g : Parts) (name : List ℕ) → is_name name ≡ true → device_named g name ≡ ok_or (option_map device_id (device_of g name)) UnknownDevice
unfolding device_named
found g name e = ap (λ b. if b then ok_or (option_map device_id (device_of g name)) UnknownDevice else Err BadName) e

read_by : (at : ℕ) (wanted : Want) (o : Option ℕ) → reading_of (event_at (Some at) (at_found (λ d. Order d wanted) (ok_or (option_map device_id o) UnknownDevice))) ≡ order_reading at wanted o
read_by at wanted None = refl
read_by at wanted (Some d) = refl

module _ (g : Parts) (h : List Event) (line : List ℕ) (at : ℕ) (name : List ℕ) (wanted : Want) (order : IsTimelyOrder h line at name wanted) where
  event_read : event_in g line ≡ event_at (Some at) (at_found (λ d. Order d wanted) (ok_or (option_map device_id (device_of g name)) UnknownDevice))
  event_read =
      ap (λ b. if b then Err TooLong else (if has_no_fields line then Err BadFields else event_of_fields g (between_commas line))) (le-ltb most_line (length line) order.short)
      ∙ ap (λ b. if b then Err BadFields else event_of_fields g (between_commas line)) order.has_fields
      ∙ ap (event_of_fields g) order.fields
      ∙ ap (event_of_shape g order.time) (order_shape wanted name)
      ∙ ap (λ t. event_at t (at_found (λ d. Order d wanted) (device_named g name))) order.stamp
      ∙ ap (λ r. event_at (Some at) (at_found (λ d. Order d wanted) r)) (found g name order.named)

  order_read : event_reading g line ≡ order_reading at wanted (device_of g name)
  unfolding event_reading
  order_read =
      ap (λ b. if b then IsSkipped else reading_of (event_in g line)) (counts line order.time _ at order.has_fields order.fields order.stamp)
      ∙ ap reading_of event_read ∙ read_by at wanted (device_of g name)

  order_outcome : outcome_of g h line ≡ outcome_after g h (order_reading at wanted (device_of g name))
  unfolding outcome_of
  order_outcome = ap (outcome_after g h) order_read

  unknown_by : (o : Option ℕ) → (outcome_after g h (order_reading at wanted o) ≡ Refuses (Unread UnknownDevice)) ↔ (o ≡ None)
  unknown_by None = (λ s. refl, λ s. refl)
  unknown_by (Some d) = (λ s. absurd (never_unread (order_at at d wanted) (refusal_of g h (order_at at d wanted)) UnknownDevice s), λ s. absurd (none-some d (sym s)))

  at_device : (d : ℕ) → device_of g name ≡ Some d → outcome_of g h line ≡ outcome_by (order_at at d wanted) (refusal_of g h (order_at at d wanted))
  at_device d known = order_outcome ∙ ap (λ o. outcome_after g h (order_reading at wanted o)) known

  within : (d : ℕ) → device_of g name ≡ Some d → d < length g.devices
  within d known = (position-Some (λ x. name_eq name x.name) g.devices d no_device known).0

  loops_at : IsSoundParts g → (d : ℕ) → device_of g name ≡ Some d →
      (outcome_by (order_at at d wanted) (refusal_of g h (order_at at d wanted)) ≡ Refuses (Unapplied Loop)) ↔ ClosesLoop g h d wanted
  loops_at sound d known =
      let by = loop_at g h (order_at at d wanted) in
      let walks = closes g h sound d (within d known) wanted in
      (λ s. walks.0 (by.0 s).1, λ c. by.1 (order.timely, walks.1 c))

  applies_at : IsSoundParts g → (d : ℕ) → device_of g name ≡ Some d → (ClosesLoop g h d wanted → ⊥) →
      outcome_by (order_at at d wanted) (refusal_of g h (order_at at d wanted)) ≡ Applies (order_at at d wanted)
  applies_at sound d known never =
      ap (outcome_by (order_at at d wanted))
      (none_at g h (order_at at d wanted) order.timely refl (false_from_ne_true (loops_by g h d wanted) (λ e. never ((closes g h sound d (within d known) wanted).0 e))))

  judged : OrderIsJudged g h line at name wanted
  judged = record {
    unknown = subst (λ o. (o ≡ Refuses (Unread UnknownDevice)) ↔ (device_of g name ≡ None)) (sym order_outcome) (unknown_by (device_of g name));
    looping = λ sound d known. subst (λ o. (o ≡ Refuses (Unapplied Loop)) ↔ ClosesLoop g h d wanted) (sym (at_device d known)) (loops_at sound d known);
    applied = λ sound d known never. at_device d known ∙ applies_at sound d known never;
  }

pub lines_follow_rules : LinesFollowRules
lines_follow_rules = record { lines = follows; orders = judged }
