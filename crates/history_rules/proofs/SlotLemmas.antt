-- The kept slots of a meter tell what counts of its reports.
use Rattle.std.proofs.Common.{◌≡◌, ℕ, ◌+◌, ◌≤◌, Bool, true, false, List, [], ◌∷◌, refl, sym, ap, ◌∙◌, arith}
use Rattle.std.specs.Prelude.{◌||◌, ◌&&◌, not, nat_lt, Option, Some, None, is_some, if◌then◌else◌}
use Rattle.std.proofs.lemmas.Bool.{false≢true, ltb-true, lt-ltb}
use Rattle.std.proofs.Math.Bool.{or-false}
use Rattle.grid_model.specs.Parts.{Parts}
use Rattle.grid_model.specs.Places.{setting_of}
use Rattle.grid_model.specs.declared.parts.Setting.TheVariants.{Grace}
use Rattle.grid_model.specs.declared.history.Event.{Event}
use Rattle.history_rules.specs.State.{now}
use Rattle.history_rules.specs.Evidence.{last_of, some_later, passing, brings_back, is_call_of, is_signal_of, is_live_signal_of, is_dark_signal_of, counted_call, counted_dark_signal, counted_live_signal, weight_in, time_in, earliest}
use Rattle.history_rules.specs.Slots.{IsTimely, slots_of, is_quiet, dark_signal_in, live_signal_in}
use Rattle.history_rules.specs.Laws.{SlotsTell}

signal_is_last : (g : Parts) (m : ℕ) (h : List Event) → (slots_of g m h).signal ≡ last_of (is_signal_of m) h
signal_is_last g m [] = refl
signal_is_last g m (e ∷ h) = ap (λ o. if is_signal_of m e.what then Some e else o) (signal_is_last g m h)

none_passes : (o : Option Event) → None ≡ passing (λ e. false) o
none_passes None = refl
none_passes (Some e) = refl

call_step : (is_call answered later : Bool) (e : Event) (o c : Option Event) → c ≡ passing (λ x. not later) o →
    (if is_call then Some e else (if answered then None else c)) ≡ passing (λ x. not (if is_call then false else (answered || later))) (if is_call then Some e else o)
call_step true answered later e o c h = refl
call_step false true later e o c h = none_passes o
call_step false false later e o c h = h

-- the kept call is the one that counts
call_is_counted : (g : Parts) (m : ℕ) (h : List Event) → (slots_of g m h).call ≡ counted_call g h m
call_is_counted g m [] = refl
call_is_counted g m (e ∷ h) =
    call_step (is_call_of m e.what) (is_live_signal_of m e.what || brings_back g m e.what h)
    (some_later (is_call_of m) (λ x before. is_live_signal_of m x.what || brings_back g m x.what before) h) e (last_of (is_call_of m) h) (slots_of g m h).call (call_is_counted g m h)

-- no restoration that is kept is later than now
abbrev IsPast : ℕ → Option ℕ → Type 0
IsPast t None = Unit {0}
IsPast t (Some s) = s ≤ t

later_past : (s t : ℕ) (o : Option ℕ) → s ≤ t → IsPast s o → IsPast t o
later_past s t None l p = tt
later_past s t (Some x) l p = omega arith

past_step : (is_signal brought : Bool) (t : ℕ) (o : Option ℕ) → IsPast t o → IsPast t (if is_signal then None else (if brought then Some t else o))
past_step true brought t o p = tt
past_step false true t o p = omega arith
past_step false false t o p = p

back_is_past : (g : Parts) (m : ℕ) (h : List Event) → IsTimely h → IsPast (now h) (slots_of g m h).back
back_is_past g m [] timely = tt
back_is_past g m (e ∷ h) timely =
    past_step (is_signal_of m e.what) (brings_back g m e.what h) e.time.0 (slots_of g m h).back (later_past (now h) e.time.0 (slots_of g m h).back timely.0 (back_is_past g m h timely.1))

absorbed : (a b : Bool) → (b ≡ true → a ≡ true) → (a || b) ≡ a
absorbed true b h = refl
absorbed false true h = absurd (false≢true (h refl))
absorbed false false h = refl

quieter : (t hold s x : ℕ) → x ≤ s → (nat_lt t (s + hold) || nat_lt t (x + hold)) ≡ nat_lt t (s + hold)
quieter t hold s x l = absorbed (nat_lt t (s + hold)) (nat_lt t (x + hold)) (λ e. let lt = ltb-true t (x + hold) e in lt-ltb t (s + hold) (omega arith))

quiet_step : (is_signal brought : Bool) (t hold s : ℕ) (o : Option ℕ) → IsPast s o →
    (if is_signal then false else ((brought && nat_lt t (s + hold)) || is_quiet t hold o)) ≡ is_quiet t hold (if is_signal then None else (if brought then Some s else o))
quiet_step true brought t hold s o p = refl
quiet_step false true t hold s None p = or-false (nat_lt t (s + hold))
quiet_step false true t hold s (Some x) p = quieter t hold s x p
quiet_step false false t hold s o p = refl

-- the last restoration tells whether a later one silences the signal
silenced_by_last : (g : Parts) (m t : ℕ) (h : List Event) → IsTimely h →
    some_later (is_signal_of m) (λ e before. brings_back g m e.what before && nat_lt t (e.time.0 + setting_of g Grace)) h ≡ is_quiet t (setting_of g Grace) (slots_of g m h).back
silenced_by_last g m t [] timely = refl
silenced_by_last g m t (e ∷ h) timely =
    ap (λ b. if is_signal_of m e.what then false else ((brings_back g m e.what h && nat_lt t (e.time.0 + setting_of g Grace)) || b)) (silenced_by_last g m t h timely.1)
    ∙ quiet_step (is_signal_of m e.what) (brings_back g m e.what h) t (setting_of g Grace) e.time.0 (slots_of g m h).back (later_past (now h) e.time.0 (slots_of g m h).back timely.0 (back_is_past g m h timely.1))

back_step : (is_signal brought : Bool) (s : ℕ) (o : Option ℕ) →
    (if is_signal then false else (brought || is_some o)) ≡ is_some (if is_signal then None else (if brought then Some s else o))
back_step true brought s o = refl
back_step false true s o = refl
back_step false false s o = refl

-- and whether there is a later one
back_is_later : (g : Parts) (m : ℕ) (h : List Event) → some_later (is_signal_of m) (λ e before. brings_back g m e.what before) h ≡ is_some (slots_of g m h).back
back_is_later g m [] = refl
back_is_later g m (e ∷ h) =
    ap (λ b. if is_signal_of m e.what then false else (brings_back g m e.what h || b)) (back_is_later g m h)
    ∙ back_step (is_signal_of m e.what) (brings_back g m e.what h) e.time.0 (slots_of g m h).back

dark_is_counted : (g : Parts) (m : ℕ) (h : List Event) → IsTimely h → counted_dark_signal g h m ≡ dark_signal_in g m (now h) (slots_of g m h)
dark_is_counted g m h timely =
    ap (λ o. passing (λ e. is_dark_signal_of m e.what && not (some_later (is_signal_of m) (λ e before. brings_back g m e.what before && nat_lt (now h) (e.time.0 + setting_of g Grace)) h)) o) (sym (signal_is_last g m h))
    ∙ ap (λ b. passing (λ e. is_dark_signal_of m e.what && not b) (slots_of g m h).signal) (silenced_by_last g m (now h) h timely)

live_is_counted : (g : Parts) (m : ℕ) (h : List Event) → counted_live_signal g h m ≡ live_signal_in g m (now h) (slots_of g m h)
live_is_counted g m h = ap (passing _) (sym (signal_is_last g m h))

pub evidence_is_kept : (g : Parts) (m : ℕ) (h : List Event) → IsTimely h → SlotsTell g m h
evidence_is_kept g m h timely =
    let s = slots_of g m h in
    let call = sym (call_is_counted g m h) in
    let dark = dark_is_counted g m h timely in
    record {
      dark = ap (λ o. weight_in g o + weight_in g (counted_dark_signal g h m)) call ∙ ap (λ o. weight_in g s.call + weight_in g o) dark;
      live = ap (weight_in g) (live_is_counted g m h);
      since = ap (λ o. earliest (time_in o) (time_in (counted_dark_signal g h m))) call ∙ ap (λ o. earliest (time_in s.call) (time_in o)) dark;
      came_back =
          ap (λ o. is_some o && some_later (is_signal_of m) (λ e before. brings_back g m e.what before) h) dark
          ∙ ap (λ b. is_some (dark_signal_in g m (now h) s) && b) (back_is_later g m h);
    }
