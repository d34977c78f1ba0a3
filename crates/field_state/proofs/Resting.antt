-- Marks and due times stay until they are due.
use Rattle.std.proofs.Common.{◌≡◌, ℕ, ◌+◌, ◌<◌, ◌≤◌, Bool, true, false, cond, List, [], ◌∷◌, length, refl, sym, ap, ◌∙◌, inl, inr, ⊎_elim, arith}
use Rattle.std.specs.Prelude.{◌⊎◌, ◌==◌, nat_lt, Option, Some, None, if◌then◌else◌, slice_index_or}
use Rattle.std.proofs.lemmas.Bool.{cases_lt, ltb-true, lt-ltb, ne_eqb, cond-false}
use Rattle.grid_model.specs.Parts.{Parts}
use Rattle.grid_model.specs.Places.{setting_of}
use Rattle.grid_model.specs.declared.parts.Setting.TheVariants.{LiveHold, OkHold, Grace}
use Rattle.grid_model.specs.declared.history.Event.{Event}
use Rattle.grid_model.specs.declared.history.Mark.{Mark}
use Rattle.grid_model.specs.declared.history.Mark.TheVariants as mark
use Rattle.grid_model.specs.declared.history.What.{What}
use Rattle.grid_model.specs.declared.history.What.TheVariants.{Confirm, Restore, Order}
use Rattle.grid_model.specs.declared.history.Confirmed.TheVariants as confirmed
use Rattle.due_queue.specs.Due.{IsNothingDue}
use Rattle.history_rules.specs.State.{mark_at, mark_by, mark_said, fine_while}
use Rattle.history_rules.specs.Evidence.{is_live_signal_of, is_dark_signal_of}
use Rattle.history_rules.specs.Posed.{IsHistory, IsOfGrid}
use Rattle.history_rules.specs.Slots.{Slots, end_after, grace_after, due_of_signal, due_in}
use Rattle.field_state.specs.Fielded.{fine_end_by, mark_due}

-- there is no end, or it lies after time u
abbrev pub IsAfter : ℕ → Option ℕ → Type 0
IsAfter u None = Unit {0}
IsAfter u (Some end) = u < end

-- a key that isn't due has its time later
pub not_due : (times : List (Option ℕ)) (u key : ℕ) (o : Option ℕ) → IsNothingDue times u → slice_index_or times key None ≡ o → IsAfter u o
not_due times u key None rest e = tt
not_due times u key (Some t) rest e = ⊎_elim (λ l. l) (λ l. absurd (rest key (t, e, l))) (cases_lt u t)

pub none_or_later : (u : ℕ) (o : Option ℕ) → IsAfter u o → (o ≡ None) ⊎ ((end : ℕ) × (o ≡ Some end) × (u < end))
none_or_later u None a = inl refl
none_or_later u (Some end) a = inr (end, refl, a)

-- a hold that isn't over at t, and doesn't end until u, isn't over at u
holds_step : (a b : Bool) (u end : ℕ) → (b ≡ true → a ≡ true) → (u < end → b ≡ true) → IsAfter u (if a then Some end else None) → a ≡ b
holds_step true b u end earlier later after = sym (later after)
holds_step false true u end earlier later after = earlier refl
holds_step false false u end earlier later after = refl

pub holds_stay : (t u end : ℕ) → t ≤ u → IsAfter u (end_after t end) → nat_lt t end ≡ nat_lt u end
holds_stay t u end l = holds_step (nat_lt t end) (nat_lt u end) u end (λ e. let lt = ltb-true u end e in lt-ltb t end (omega arith)) (lt-ltb u end)

end_stays : (t u end : ℕ) → t ≤ u → IsAfter u (end_after t end) → end_after t end ≡ end_after u end
end_stays t u end l after = ap (λ b. if b then Some end else None) (holds_stay t u end l after)

-- when a meter's weights change next
grace_stays : (g : Parts) (t u : ℕ) (back : Option ℕ) → t ≤ u → IsAfter u (grace_after g t back) → grace_after g t back ≡ grace_after g u back
grace_stays g t u None l after = refl
grace_stays g t u (Some s) l after = end_stays t u (s + setting_of g Grace) l after

signal_stays : (g : Parts) (live dark : Bool) (t u end : ℕ) (back : Option ℕ) → t ≤ u →
    IsAfter u (if live then end_after t end else (if dark then grace_after g t back else None)) →
    (if live then end_after t end else (if dark then grace_after g t back else None)) ≡ (if live then end_after u end else (if dark then grace_after g u back else None))
signal_stays g true dark t u end back l after = end_stays t u end l after
signal_stays g false true t u end back l after = grace_stays g t u back l after
signal_stays g false false t u end back l after = refl

last_stays : (g : Parts) (m t u : ℕ) (back : Option ℕ) (signal : Option Event) → t ≤ u → IsAfter u (due_of_signal g m t back signal) →
    due_of_signal g m t back signal ≡ due_of_signal g m u back signal
last_stays g m t u back None l after = refl
last_stays g m t u back (Some e) l after =
    signal_stays g (is_live_signal_of m e.what) (is_dark_signal_of m e.what) t u (e.time.0 + setting_of g LiveHold) back l after

pub due_stays : (g : Parts) (m t u : ℕ) (s : Slots) → t ≤ u → IsAfter u (due_in g m t s) → due_in g m t s ≡ due_in g m u s
due_stays g m t u s l after = last_stays g m t u s.back s.signal l after

-- the mark of a device, and when it changes next
over_step : (named : Bool) (said mt mu : Mark) (u : ℕ) (dt du : Option ℕ) → (IsAfter u dt → (mt ≡ mu) × (dt ≡ du)) → IsAfter u (if named then None else dt) →
    ((if named then said else mt) ≡ (if named then said else mu)) × ((if named then None else dt) ≡ (if named then None else du))
over_step true said mt mu u dt du known after = (refl, refl)
over_step false said mt mu u dt du known after = known after

fine_step : (named a b : Bool) (mt mu : Mark) (u end : ℕ) (dt du : Option ℕ) → (IsAfter u (if a then Some end else None) → a ≡ b) → (IsAfter u dt → (mt ≡ mu) × (dt ≡ du)) →
    IsAfter u (if named then (if a then Some end else None) else dt) →
    ((if named then fine_while a else mt) ≡ (if named then fine_while b else mu))
    × ((if named then (if a then Some end else None) else dt) ≡ (if named then (if b then Some end else None) else du))
fine_step true a b mt mu u end dt du own known after = (ap fine_while (own after), ap (λ x. if x then Some end else None) (own after))
fine_step false a b mt mu u end dt du own known after = known after

mark_step : (w : What) (a b : Bool) (d u end : ℕ) (mt mu : Mark) (dt du : Option ℕ) → (IsAfter u (if a then Some end else None) → a ≡ b) → (IsAfter u dt → (mt ≡ mu) × (dt ≡ du)) →
    IsAfter u (fine_end_by w (if a then Some end else None) d dt) →
    (mark_by w a d mt ≡ mark_by w b d mu) × (fine_end_by w (if a then Some end else None) d dt ≡ fine_end_by w (if b then Some end else None) d du)
mark_step (Order x w) a b d u end mt mu dt du own known after = over_step (x.0 == d) mark.Nothing mt mu u dt du known after
mark_step (Confirm x confirmed.Opened) a b d u end mt mu dt du own known after = over_step (x.0 == d) mark.Opened mt mu u dt du known after
mark_step (Confirm x confirmed.Fine) a b d u end mt mu dt du own known after = fine_step (x.0 == d) a b mt mu u end dt du own known after
mark_step (Confirm x confirmed.Cleared) a b d u end mt mu dt du own known after = over_step (x.0 == d) mark.Nothing mt mu u dt du known after
mark_step (Restore x) a b d u end mt mu dt du own known after = fine_step (x.0 == d) a b mt mu u end dt du own known after
mark_step _ a b d u end mt mu dt du own known after = known after

pub mark_stays : (g : Parts) (t u d : ℕ) → t ≤ u → (h : List Event) → IsAfter u (mark_due g t h d) → (mark_at g t h d ≡ mark_at g u h d) × (mark_due g t h d ≡ mark_due g u h d)
mark_stays g t u d l [] after = (refl, refl)
mark_stays g t u d l (e ∷ h) after =
    mark_step e.what (nat_lt t (e.time.0 + setting_of g OkHold)) (nat_lt u (e.time.0 + setting_of g OkHold)) d u (e.time.0 + setting_of g OkHold)
    (mark_at g t h d) (mark_at g u h d) (mark_due g t h d) (mark_due g u h d)
    (holds_stay t u (e.time.0 + setting_of g OkHold) l) (mark_stays g t u d l h) after

-- what isn't a device has no mark
not_named : (named : Bool) (said before : Mark) → named ≡ false → before ≡ mark.Nothing → cond named said before ≡ mark.Nothing
not_named named said before e none = cond-false named said before e ∙ none

beyond_step : (w : What) (holds : Bool) (g : Parts) (d : ℕ) (before : Mark) → length g.devices ≤ d → IsOfGrid g w → before ≡ mark.Nothing → mark_by w holds d before ≡ mark.Nothing
beyond_step (Order x w) holds g d before l own none = not_named (x.0 == d) mark.Nothing before (ne_eqb x.0 d (λ e. omega arith)) none
beyond_step (Confirm x c) holds g d before l own none = not_named (x.0 == d) (mark_said c holds) before (ne_eqb x.0 d (λ e. omega arith)) none
beyond_step (Restore x) holds g d before l own none = not_named (x.0 == d) (fine_while holds) before (ne_eqb x.0 d (λ e. omega arith)) none
beyond_step _ holds g d before l own none = none

pub mark_beyond : (g : Parts) (t d : ℕ) → length g.devices ≤ d → (h : List Event) → IsHistory g h → mark_at g t h d ≡ mark.Nothing
mark_beyond g t d l [] known = refl
mark_beyond g t d l (e ∷ h) known =
    beyond_step e.what (nat_lt t (e.time.0 + setting_of g OkHold)) g d (mark_at g t h d) l known.0 (mark_beyond g t d l h known.2)
