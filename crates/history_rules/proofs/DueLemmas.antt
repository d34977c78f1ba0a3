-- What slots weigh stays until they are due, and changes then.
use Rattle.std.proofs.Common.{◌≡◌, ℕ, ◌+◌, ◌<◌, ◌≤◌, Bool, true, false, cond, refl, sym, ap, ◌∙◌, inl, inr, ⊎_elim, arith}
use Rattle.std.specs.Prelude.{◌⊎◌, ◌≢◌, ◌&&◌, not, nat_lt, Option, Some, None, if◌then◌else◌}
use Rattle.std.proofs.lemmas.Bool.{cases_Bool, cases_lt, false≢true, lt-ltb, le-ltb}
use Rattle.std.proofs.lemmas.Option.{none-some, same_Some, cond_some}
use Rattle.std.proofs.lemmas.Bool.{ltb-true}
use Rattle.grid_model.specs.Parts.{Parts}
use Rattle.grid_model.specs.Sound.{IsSoundParts}
use Rattle.grid_model.specs.Places.{setting_of}
use Rattle.grid_model.specs.declared.parts.Setting.TheVariants.{LiveHold, Grace}
use Rattle.grid_model.specs.declared.history.Event.{Event}
use Rattle.grid_model.specs.declared.history.What.{What}
use Rattle.grid_model.specs.declared.history.What.TheVariants.{Gasp, PingDown, PingUp, Powerup}
use Rattle.history_rules.specs.Evidence.{is_live_signal_of, is_dark_signal_of, passing, weight_in, weight_of}
use Rattle.history_rules.specs.Slots.{Slots, is_quiet, end_after, grace_after, due_of_signal, due_in, dark_in, live_in}
use Rattle.history_rules.specs.Laws.{WeighsTheSame}

-- nothing is due up to a time
abbrev Stays : Option ℕ → ℕ → Type 0
Stays due u = (due ≡ None) ⊎ ((end : ℕ) × (due ≡ Some end) × (u < end))

-- a hold that isn't due to end up to a time holds then if it holds now
hold_stays : (t u x : ℕ) → t ≤ u → Stays (end_after t x) u → nat_lt t x ≡ nat_lt u x
hold_stays t u x l stays = ⊎_elim
    (λ less. let holds = lt-ltb t x less in holds ∙ sym (lt-ltb u x (later holds stays)))
    (λ more. le-ltb t x more ∙ sym (le-ltb u x (omega arith)))
    (cases_lt t x)
  where
    later : nat_lt t x ≡ true → Stays (end_after t x) u → u < x
    later holds (inl none) = absurd (none-some x (sym none ∙ ap (λ b. cond b (Some x) None) holds))
    later holds (inr some) = let same : x ≡ some.0 = same_Some x some.0 (sym (ap (λ b. cond b (Some x) None) holds) ∙ some.1) in let less : u < some.0 = some.2 in omega arith

quiet_stays : (g : Parts) (t u : ℕ) (back : Option ℕ) → t ≤ u → Stays (grace_after g t back) u → is_quiet t (setting_of g Grace) back ≡ is_quiet u (setting_of g Grace) back
quiet_stays g t u None l stays = refl
quiet_stays g t u (Some s) l stays = hold_stays t u (s + setting_of g Grace) l stays

-- no signal is of both kinds
one_kind : (m : ℕ) (w : What) → is_dark_signal_of m w ≡ true → is_live_signal_of m w ≡ false
one_kind m (Gasp x) e = refl
one_kind m (PingDown x) e = refl
one_kind m _ e = absurd (false≢true e)

-- what is due of a signal, by its kind
abbrev due_by : Bool → Bool → Option ℕ → Option ℕ → Option ℕ
due_by live dark of_live of_dark = cond live of_live (cond dark of_dark None)

live_same : (live dark : Bool) (t u x : ℕ) (of_dark : Option ℕ) → t ≤ u → Stays (due_by live dark (end_after t x) of_dark) u → (live && nat_lt t x) ≡ (live && nat_lt u x)
live_same true dark t u x of_dark l stays = hold_stays t u x l stays
live_same false dark t u x of_dark l stays = refl

dark_same : (live dark quiet later : Bool) (u : ℕ) (of_live of_dark : Option ℕ) → (dark ≡ true → live ≡ false) → (Stays of_dark u → quiet ≡ later) →
    Stays (due_by live dark of_live of_dark) u → (dark && not quiet) ≡ (dark && not later)
dark_same true true quiet later u of_live of_dark kind same stays = absurd (false≢true (sym (kind refl)))
dark_same true false quiet later u of_live of_dark kind same stays = refl
dark_same false true quiet later u of_live of_dark kind same stays = ap not (same stays)
dark_same false false quiet later u of_live of_dark kind same stays = refl

-- the signals that count at a time, by parts of the slots
abbrev dark_signal_by : Parts → ℕ → ℕ → Option ℕ → Option Event → Option Event
dark_signal_by g m t back signal = passing (λ e. is_dark_signal_of m e.what && not (is_quiet t (setting_of g Grace) back)) signal

abbrev live_signal_by : Parts → ℕ → ℕ → Option Event → Option Event
live_signal_by g m t signal = passing (λ e. is_live_signal_of m e.what && nat_lt t (e.time.0 + setting_of g LiveHold)) signal

dark_stays : (g : Parts) (m t u : ℕ) (back : Option ℕ) (signal : Option Event) → t ≤ u → Stays (due_of_signal g m t back signal) u → dark_signal_by g m t back signal ≡ dark_signal_by g m u back signal
dark_stays g m t u back None l stays = refl
dark_stays g m t u back (Some e) l stays =
    ap (λ b. if b then Some e else None)
    (dark_same (is_live_signal_of m e.what) (is_dark_signal_of m e.what) (is_quiet t (setting_of g Grace) back) (is_quiet u (setting_of g Grace) back) u
    (end_after t (e.time.0 + setting_of g LiveHold)) (grace_after g t back) (one_kind m e.what) (quiet_stays g t u back l) stays)

live_stays : (g : Parts) (m t u : ℕ) (back : Option ℕ) (signal : Option Event) → t ≤ u → Stays (due_of_signal g m t back signal) u → live_signal_by g m t signal ≡ live_signal_by g m u signal
live_stays g m t u back None l stays = refl
live_stays g m t u back (Some e) l stays =
    ap (λ b. if b then Some e else None)
    (live_same (is_live_signal_of m e.what) (is_dark_signal_of m e.what) t u (e.time.0 + setting_of g LiveHold) (grace_after g t back) l stays)

pub weights_stay_until_due : (g : Parts) (m : ℕ) (s : Slots) (t u : ℕ) → t ≤ u → (due_in g m t s ≡ None) ⊎ ((end : ℕ) × (due_in g m t s ≡ Some end) × (u < end)) → WeighsTheSame g m s t u
weights_stay_until_due g m s t u l stays = record {
  dark = ap (λ o. weight_in g s.call + weight_in g o) (dark_stays g m t u s.back s.signal l stays);
  live = ap (weight_in g) (live_stays g m t u s.back s.signal l stays);
}

-- each signal weighs something
live_weighs : (g : Parts) (m : ℕ) (w : What) → IsSoundParts g → is_live_signal_of m w ≡ true → 1 ≤ weight_of g w
live_weighs g m (PingUp x) sound e = sound.settings.weights 3 (omega arith)
live_weighs g m (Powerup x) sound e = sound.settings.weights 4 (omega arith)
live_weighs g m _ sound e = absurd (false≢true e)

dark_weighs : (g : Parts) (m : ℕ) (w : What) → IsSoundParts g → is_dark_signal_of m w ≡ true → 1 ≤ weight_of g w
dark_weighs g m (Gasp x) sound e = sound.settings.weights 1 (omega arith)
dark_weighs g m (PingDown x) sound e = sound.settings.weights 2 (omega arith)
dark_weighs g m _ sound e = absurd (false≢true e)

-- where it counts it weighs, and elsewhere it doesn't
counts : (g : Parts) (e : Event) (kind holds : Bool) → kind ≡ true → holds ≡ true → weight_in g (if kind && holds then Some e else None) ≡ weight_of g e.what
counts g e true true k h = refl
counts g e true false k h = absurd (false≢true h)
counts g e false holds k h = absurd (false≢true k)

lapses : (g : Parts) (e : Event) (kind holds : Bool) → holds ≡ false → weight_in g (if kind && holds then Some e else None) ≡ 0
lapses g e true true h = absurd (false≢true (sym h))
lapses g e true false h = refl
lapses g e false holds h = refl

unlike : (a b w : ℕ) → a ≡ w → b ≡ 0 → 1 ≤ w → a ≢ b
unlike a b w x y heavy same = absurd (omega arith)

unlike_sums : (rest a b w : ℕ) → a ≡ w → b ≡ 0 → 1 ≤ w → rest + a ≢ rest + b
unlike_sums rest a b w x y heavy same = absurd (omega arith)

ended : (t x end : ℕ) → end_after t x ≡ Some end → (t < x) × (x ≡ end)
ended t x end e = let c = cond_some (nat_lt t x) x end e in (ltb-true t x c.0, c.1)

-- what the slots weigh at the two times differs
abbrev IsChange : Parts → ℕ → ℕ → ℕ → Option Event → Option ℕ → Option Event → Type 0
IsChange g m t end call back signal =
    (t < end)
    × ((weight_in g call + weight_in g (dark_signal_by g m t back signal) ≢ weight_in g call + weight_in g (dark_signal_by g m end back signal))
    ⊎ (weight_in g (live_signal_by g m t signal) ≢ weight_in g (live_signal_by g m end signal)))

live_changes : (g : Parts) (m t end : ℕ) (call : Option Event) (back : Option ℕ) (e : Event) → IsSoundParts g → is_live_signal_of m e.what ≡ true →
    end_after t (e.time.0 + setting_of g LiveHold) ≡ Some end → IsChange g m t end call back (Some e)
live_changes g m t end call back e sound live due =
    let x = e.time.0 + setting_of g LiveHold in
    let d = ended t x end due in
    let less : t < x = d.0 in
    let same : x ≡ end = d.1 in (
      omega arith,
      inr (unlike
          (weight_in g (live_signal_by g m t (Some e))) (weight_in g (live_signal_by g m end (Some e))) (weight_of g e.what)
          (counts g e (is_live_signal_of m e.what) (nat_lt t x) live (lt-ltb t x less))
          (lapses g e (is_live_signal_of m e.what) (nat_lt end x) (le-ltb end x (omega arith)))
          (live_weighs g m e.what sound live)),
    )

dark_changes : (g : Parts) (m t end : ℕ) (call : Option Event) (back : Option ℕ) (e : Event) → IsSoundParts g → is_dark_signal_of m e.what ≡ true →
    grace_after g t back ≡ Some end → IsChange g m t end call back (Some e)
dark_changes g m t end call None e sound dark due = absurd (none-some end due)
dark_changes g m t end call (Some s) e sound dark due =
    let x = s + setting_of g Grace in
    let d = ended t x end due in
    let less : t < x = d.0 in
    let same : x ≡ end = d.1 in (
      omega arith,
      inl (λ alike. unlike_sums (weight_in g call)
          (weight_in g (dark_signal_by g m end (Some s) (Some e))) (weight_in g (dark_signal_by g m t (Some s) (Some e))) (weight_of g e.what)
          (counts g e (is_dark_signal_of m e.what) (not (nat_lt end x)) dark (ap not (le-ltb end x (omega arith))))
          (lapses g e (is_dark_signal_of m e.what) (not (nat_lt t x)) (ap not (lt-ltb t x less)))
          (dark_weighs g m e.what sound dark) (sym alike)),
    )

changes : (g : Parts) (m t end : ℕ) (call : Option Event) (back : Option ℕ) (signal : Option Event) → IsSoundParts g → due_of_signal g m t back signal ≡ Some end → IsChange g m t end call back signal
changes g m t end call back None sound due = absurd (none-some end due)
changes g m t end call back (Some e) sound due = by_kind (cases_Bool (is_live_signal_of m e.what)) (cases_Bool (is_dark_signal_of m e.what))
  where
    by_kind : (is_live_signal_of m e.what ≡ true) ⊎ (is_live_signal_of m e.what ≡ false) → (is_dark_signal_of m e.what ≡ true) ⊎ (is_dark_signal_of m e.what ≡ false) → IsChange g m t end call back (Some e)
    by_kind (inl live) dark =
        live_changes g m t end call back e sound live
        (sym (ap (λ b. due_by b (is_dark_signal_of m e.what) (end_after t (e.time.0 + setting_of g LiveHold)) (grace_after g t back)) live) ∙ due)
    by_kind (inr live) (inl dark) =
        dark_changes g m t end call back e sound dark
        (sym (ap (λ b. due_by b (is_dark_signal_of m e.what) (end_after t (e.time.0 + setting_of g LiveHold)) (grace_after g t back)) live
        ∙ ap (λ b. due_by false b (end_after t (e.time.0 + setting_of g LiveHold)) (grace_after g t back)) dark) ∙ due)
    by_kind (inr live) (inr dark) =
        absurd (none-some end (sym (ap (λ b. due_by b (is_dark_signal_of m e.what) (end_after t (e.time.0 + setting_of g LiveHold)) (grace_after g t back)) live
        ∙ ap (λ b. due_by false b (end_after t (e.time.0 + setting_of g LiveHold)) (grace_after g t back)) dark) ∙ due))

pub weights_change_when_due : (g : Parts) (m : ℕ) (s : Slots) (t end : ℕ) → IsSoundParts g → due_in g m t s ≡ Some end → (t < end) × ((dark_in g m t s ≢ dark_in g m end s) ⊎ (live_in g m t s ≢ live_in g m end s))
weights_change_when_due g m s t end sound due = changes g m t end s.call s.back s.signal sound due
