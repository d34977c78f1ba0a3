-- What the calls on a meter told, by what is kept of it.
use Rattle.std.proofs.Common.{◌≡◌, ℕ, ◌+◌, ◌<◌, ◌≤◌, Bool, true, false, List, [], ◌∷◌, refl, sym, ap, subst, ◌∙◌, arith, inl, inr}
use Rattle.std.specs.Prelude.{◌⊎◌, ◌≢◌, ◌||◌, ◌&&◌, not, nat_lt, Option, Some, None, is_some, if◌then◌else◌, option_map}
use Rattle.std.proofs.lemmas.Bool.{false≢true, ltb-true, lt-ltb}
use Rattle.std.proofs.lemmas.Option.{none-some, same_Some}
use Rattle.std.proofs.Math.Bool.{or-false}
use Rattle.grid_model.specs.Parts.{Parts}
use Rattle.grid_model.specs.Sound.{IsSoundParts}
use Rattle.grid_model.specs.Places.{setting_of}
use Rattle.grid_model.specs.declared.parts.Setting.TheVariants.{LiveHold, Grace}
use Rattle.grid_model.specs.declared.history.Event.{Event}
use Rattle.grid_model.specs.declared.history.Stamp.{Stamp}
use Rattle.history_rules.specs.State.{now}
use Rattle.history_rules.specs.Evidence.{is_call_of, is_signal_of, is_live_signal_of, is_dark_signal_of, last_of, some_later, passing, weight_in, time_in, earliest}
use Rattle.history_rules.specs.Slots.{Slots, IsTimely, slots_after, no_slots, is_quiet, dark_signal_in, dark_in, live_in, due_in}
use Rattle.history_rules.specs.Laws.{WeightsStayUntilDue, WeightsChangeWhenDue}
use Rattle.evidence.specs.declared.slot.Sign.TheVariants.{Gasp, PingDown, PingUp, Powerup}
use Rattle.evidence.specs.Kept.{pull_by, stamp_at}
use Rattle.evidence.specs.Calls.{Report, Called, Signalled, Restored, Lapsed, Told, slots_told, kept_after, what_told, events_told, is_restoration, call_that_counts, dark_that_counts, is_hushed, dark_told, live_told, lapsed_at, CallsTell, TellTheSame, IsNextChange}

-- the slots after events, where every restoration brings the meter back
abbrev slots_in_all : ℕ → List Event → Slots
slots_in_all m [] = no_slots
slots_in_all m (e ∷ h) = slots_after m e (is_restoration e.what) (slots_in_all m h)

-- a call leaves the slots as its event does
told_as_event : (m t : ℕ) (r : Report) (s : Slots) →
    slots_told m r (stamp_at t) s ≡ slots_after m (record { time = stamp_at t; what = what_told m r }) (is_restoration (what_told m r)) s
told_as_event m t Called s = refl
told_as_event m t (Signalled Gasp) s = refl
told_as_event m t (Signalled PingDown) s = refl
told_as_event m t (Signalled PingUp) s = refl
told_as_event m t (Signalled Powerup) s = refl
told_as_event m t Restored s = refl
told_as_event m t Lapsed s = refl

kept_as_events : (m : ℕ) (calls : List Told) → (kept_after m calls).slots ≡ slots_in_all m (events_told m calls)
kept_as_events m [] = refl
kept_as_events m (c ∷ calls) =
    told_as_event m c.time c.report (kept_after m calls).slots
    ∙ ap (slots_after m (record { time = stamp_at c.time; what = what_told m c.report }) (is_restoration (what_told m c.report))) (kept_as_events m calls)

kept_at_last : (m : ℕ) (calls : List Told) → (kept_after m calls).at ≡ now (events_told m calls)
kept_at_last m [] = refl
kept_at_last m (c ∷ calls) = refl

signal_is_last : (m : ℕ) (h : List Event) → (slots_in_all m h).signal ≡ last_of (is_signal_of m) h
signal_is_last m [] = refl
signal_is_last m (e ∷ h) = ap (λ o. if is_signal_of m e.what then Some e else o) (signal_is_last m h)

none_passes : (o : Option Event) → None ≡ passing (λ e. false) o
none_passes None = refl
none_passes (Some e) = refl

call_step : (is_call answered later : Bool) (e : Event) (o c : Option Event) → c ≡ passing (λ x. not later) o →
    (if is_call then Some e else (if answered then None else c)) ≡ passing (λ x. not (if is_call then false else (answered || later))) (if is_call then Some e else o)
call_step true answered later e o c h = refl
call_step false true later e o c h = none_passes o
call_step false false later e o c h = h

call_counts : (m : ℕ) (h : List Event) → (slots_in_all m h).call ≡ call_that_counts m h
call_counts m [] = refl
call_counts m (e ∷ h) =
    call_step (is_call_of m e.what) (is_live_signal_of m e.what || is_restoration e.what)
    (some_later (is_call_of m) (λ x before. is_live_signal_of m x.what || is_restoration x.what) h) e (last_of (is_call_of m) h) (slots_in_all m h).call (call_counts m h)

-- no restoration that is kept is later than this second
abbrev BackBy : ℕ → Option ℕ → Type 0
BackBy t None = Unit {0}
BackBy t (Some s) = s ≤ t

back_later : (s t : ℕ) (o : Option ℕ) → s ≤ t → BackBy s o → BackBy t o
back_later s t None l p = tt
back_later s t (Some x) l p = omega arith

back_by_step : (is_signal brought : Bool) (t : ℕ) (o : Option ℕ) → BackBy t o → BackBy t (if is_signal then None else (if brought then Some t else o))
back_by_step true brought t o p = tt
back_by_step false true t o p = omega arith
back_by_step false false t o p = p

back_by : (m : ℕ) (h : List Event) → IsTimely h → BackBy (now h) (slots_in_all m h).back
back_by m [] timely = tt
back_by m (e ∷ h) timely =
    back_by_step (is_signal_of m e.what) (is_restoration e.what) e.time.0 (slots_in_all m h).back
    (back_later (now h) e.time.0 (slots_in_all m h).back timely.0 (back_by m h timely.1))

absorbed : (a b : Bool) → (b ≡ true → a ≡ true) → (a || b) ≡ a
absorbed true b h = refl
absorbed false true h = absurd (false≢true (h refl))
absorbed false false h = refl

quieter : (t hold s x : ℕ) → x ≤ s → (nat_lt t (s + hold) || nat_lt t (x + hold)) ≡ nat_lt t (s + hold)
quieter t hold s x l = absorbed (nat_lt t (s + hold)) (nat_lt t (x + hold)) (λ e. let lt = ltb-true t (x + hold) e in lt-ltb t (s + hold) (omega arith))

quiet_step : (is_signal brought : Bool) (t hold s : ℕ) (o : Option ℕ) → BackBy s o →
    (if is_signal then false else ((brought && nat_lt t (s + hold)) || is_quiet t hold o)) ≡ is_quiet t hold (if is_signal then None else (if brought then Some s else o))
quiet_step true brought t hold s o p = refl
quiet_step false true t hold s None p = or-false (nat_lt t (s + hold))
quiet_step false true t hold s (Some x) p = quieter t hold s x p
quiet_step false false t hold s o p = refl

-- the last restoration tells whether a later one hushes the signal
hushed_by_last : (g : Parts) (m t : ℕ) (h : List Event) → IsTimely h →
    some_later (is_signal_of m) (λ x before. is_restoration x.what && nat_lt t (x.time.0 + setting_of g Grace)) h ≡ is_quiet t (setting_of g Grace) (slots_in_all m h).back
hushed_by_last g m t [] timely = refl
hushed_by_last g m t (e ∷ h) timely =
    ap (λ b. if is_signal_of m e.what then false else ((is_restoration e.what && nat_lt t (e.time.0 + setting_of g Grace)) || b)) (hushed_by_last g m t h timely.1)
    ∙ quiet_step (is_signal_of m e.what) (is_restoration e.what) t (setting_of g Grace) e.time.0 (slots_in_all m h).back
    (back_later (now h) e.time.0 (slots_in_all m h).back timely.0 (back_by m h timely.1))

back_step : (is_signal brought : Bool) (s : ℕ) (o : Option ℕ) →
    (if is_signal then false else (brought || is_some o)) ≡ is_some (if is_signal then None else (if brought then Some s else o))
back_step true brought s o = refl
back_step false true s o = refl
back_step false false s o = refl

-- and whether there is a later one
back_is_later : (m : ℕ) (h : List Event) → some_later (is_signal_of m) (λ x before. is_restoration x.what) h ≡ is_some (slots_in_all m h).back
back_is_later m [] = refl
back_is_later m (e ∷ h) =
    ap (λ b. if is_signal_of m e.what then false else (is_restoration e.what || b)) (back_is_later m h)
    ∙ back_step (is_signal_of m e.what) (is_restoration e.what) e.time.0 (slots_in_all m h).back

dark_counts : (g : Parts) (m : ℕ) (h : List Event) → IsTimely h → dark_that_counts g m h ≡ dark_signal_in g m (now h) (slots_in_all m h)
dark_counts g m h timely =
    ap (λ o. passing (λ e. is_dark_signal_of m e.what && not (is_hushed g m h)) o) (sym (signal_is_last m h))
    ∙ ap (λ b. passing (λ e. is_dark_signal_of m e.what && not b) (slots_in_all m h).signal) (hushed_by_last g m (now h) h timely)

-- the weights that count, by the slots
dark_by_slots : (g : Parts) (m : ℕ) (h : List Event) → IsTimely h → dark_in g m (now h) (slots_in_all m h) ≡ dark_told g m h
dark_by_slots g m h timely =
    ap (λ o. weight_in g o + weight_in g (dark_signal_in g m (now h) (slots_in_all m h))) (call_counts m h)
    ∙ ap (λ o. weight_in g (call_that_counts m h) + weight_in g o) (sym (dark_counts g m h timely))

live_by_slots : (g : Parts) (m : ℕ) (h : List Event) → live_in g m (now h) (slots_in_all m h) ≡ live_told g m h
live_by_slots g m h =
    ap (λ o. weight_in g (passing (λ e. is_live_signal_of m e.what && nat_lt (now h) (e.time.0 + setting_of g LiveHold)) o)) (signal_is_last m h)

-- what slots at a time answer is what the events told
slots_tell : (g : Parts) (m t : ℕ) (s : Slots) (h : List Event) → IsTimely h → t ≡ now h → s ≡ slots_in_all m h → CallsTell g m (record { slots = s; at = t }) h
slots_tell g m t s h timely time_is slots_are =
    rw (time_is, slots_are) (record {
      dark = dark_by_slots g m h timely;
      live = live_by_slots g m h;
      since =
          ap (option_map stamp_at) (ap (λ o. earliest (time_in o) (time_in (dark_signal_in g m (now h) (slots_in_all m h)))) (call_counts m h)
          ∙ ap (λ o. earliest (time_in (call_that_counts m h)) (time_in o)) (sym (dark_counts g m h timely)));
      came_back =
          ap (λ o. is_some o && is_some (slots_in_all m h).back) (sym (dark_counts g m h timely))
          ∙ ap (λ b. is_some (dark_that_counts g m h) && b) (sym (back_is_later m h));
    })

pub evidence_is_of_its_calls : (g : Parts) (m : ℕ) (calls : List Told) → IsTimely (events_told m calls) → CallsTell g m (kept_after m calls) (events_told m calls)
evidence_is_of_its_calls g m calls timely =
    slots_tell g m (kept_after m calls).at (kept_after m calls).slots (events_told m calls) timely (kept_at_last m calls) (kept_as_events m calls)

-- what is due, read as a second
due_never : (o : Option ℕ) → option_map stamp_at o ≡ None → o ≡ None
due_never None e = refl
due_never (Some x) e = absurd (none-some (stamp_at x) (sym e))

due_then : (o : Option ℕ) (end : ℕ) → option_map stamp_at o ≡ Some (stamp_at end) → o ≡ Some end
due_then None end e = absurd (none-some (stamp_at end) e)
due_then (Some x) end e = ap Some (ap (λ (s : Stamp). s.0) (same_Some (stamp_at x) (stamp_at end) e))

module _ (g : Parts) (m : ℕ) (h : List Event) (timely : IsTimely h) where
  -- after time alone passed, the weights are those of the same slots
  dark_lapsed : (t : ℕ) → now h ≤ t → dark_in g m t (slots_in_all m h) ≡ dark_told g m (lapsed_at t h)
  dark_lapsed t l = dark_by_slots g m (lapsed_at t h) (l, timely)

  live_lapsed : (t : ℕ) → live_in g m t (slots_in_all m h) ≡ live_told g m (lapsed_at t h)
  live_lapsed t = live_by_slots g m (lapsed_at t h)

  stays : WeightsStayUntilDue → (t : ℕ) → now h ≤ t →
      (due_in g m (now h) (slots_in_all m h) ≡ None) ⊎ ((end : ℕ) × (due_in g m (now h) (slots_in_all m h) ≡ Some end) × (t < end)) → TellTheSame g m (lapsed_at t h) h
  stays law t l due =
      let same = law g m (slots_in_all m h) (now h) t l due in
      record {
        dark = sym (dark_lapsed t l) ∙ sym same.dark ∙ dark_by_slots g m h timely;
        live = sym (live_lapsed t) ∙ sym same.live ∙ live_by_slots g m h;
      }

  changes : (end : ℕ) → now h < end →
      (dark_in g m (now h) (slots_in_all m h) ≢ dark_in g m end (slots_in_all m h)) ⊎ (live_in g m (now h) (slots_in_all m h) ≢ live_in g m end (slots_in_all m h)) →
      (dark_told g m (lapsed_at end h) ≢ dark_told g m h) ⊎ (live_told g m (lapsed_at end h) ≢ live_told g m h)
  changes end l (inl unlike) = inl (λ same. unlike (dark_by_slots g m h timely ∙ sym same ∙ sym (dark_lapsed end (omega arith))))
  changes end l (inr unlike) = inr (λ same. unlike (live_by_slots g m h ∙ sym same ∙ sym (live_lapsed end)))

  next_change : WeightsStayUntilDue → WeightsChangeWhenDue → IsSoundParts g → IsNextChange g m h (option_map stamp_at (due_in g m (now h) (slots_in_all m h)))
  next_change stay change sound =
      let due = due_in g m (now h) (slots_in_all m h) in
      record {
        never = λ none t l. stays stay t l (inl (due_never due none));
        before = λ end t at l less. stays stay t l (inr (end, due_then due end at, less));
        later = λ end at. (change g m (slots_in_all m h) (now h) end sound (due_then due end at)).0;
        changed = λ end at.
            let d = change g m (slots_in_all m h) (now h) end sound (due_then due end at) in
            changes end d.0 d.1;
      }

pub due_is_of_its_calls : WeightsStayUntilDue → WeightsChangeWhenDue → (g : Parts) (m : ℕ) (calls : List Told) → IsSoundParts g → IsTimely (events_told m calls)
    → IsNextChange g m (events_told m calls) (pull_by g m (kept_after m calls)).due
due_is_of_its_calls stay change g m calls sound timely =
    let h = events_told m calls in
    subst (λ t. IsNextChange g m h (option_map stamp_at (due_in g m t (kept_after m calls).slots))) (sym (kept_at_last m calls))
    (subst (λ s. IsNextChange g m h (option_map stamp_at (due_in g m (now h) s))) (sym (kept_as_events m calls)) (next_change g m h timely stay change sound))
