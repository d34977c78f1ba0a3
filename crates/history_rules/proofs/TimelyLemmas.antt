-- The times of a history never fall, and only devices of the network are closed or marked.
use Rattle.std.proofs.Common.{◌≡◌, ℕ, ◌≤◌, Bool, true, false, cond, List, [], ◌∷◌, refl, sym, ap, ◌∙◌, subst, ◌+◌, length, arith}
use Rattle.std.specs.Prelude.{◌==◌, nat_lt, Option, Some, None, is_some, if◌then◌else◌}
use Rattle.std.proofs.lemmas.Bool.{false≢true, eqb-true, ne_eqb, not-false, ltb-false, false_from_ne_true}
use Rattle.std.proofs.lemmas.List.{get_or_past}
use Rattle.grid_model.specs.Parts.{Parts}
use Rattle.grid_model.specs.Places.{no_device, setting_of}
use Rattle.grid_model.specs.Problem.{says_opened}
use Rattle.grid_model.specs.declared.parts.Setting.TheVariants.{OkHold}
use Rattle.grid_model.specs.declared.history.Event.{Event}
use Rattle.grid_model.specs.declared.history.Mark.{Mark}
use Rattle.grid_model.specs.declared.history.Mark.TheVariants as mark
use Rattle.grid_model.specs.declared.history.Want.{Want}
use Rattle.grid_model.specs.declared.history.What.{What}
use Rattle.grid_model.specs.declared.history.What.TheVariants.{Confirm, Restore, Order}
use Rattle.grid_model.specs.declared.history.Refusal.{Refusal}
use Rattle.grid_model.specs.declared.history.Refusal.TheVariants.{Backwards, NotClosed, Loop}
use Rattle.history_rules.specs.State.{now, is_closed, is_wanted_closed, closed_by, mark_by, mark_at, mark_said, fine_while}
use Rattle.history_rules.specs.Posed.{names_open, loops, refusal_of, IsOfGrid, IsHistory}
use Rattle.history_rules.specs.Slots.{IsTimely}
use Rattle.history_rules.specs.Laws.{IsWithinGrid}

abbrev pub first_refusal : Bool → Bool → Bool → Option Refusal
first_refusal a b c = if a then Some Backwards else (if b then Some NotClosed else (if c then Some Loop else None))

none_fits : (a b c : Bool) → first_refusal a b c ≡ None → (a ≡ false) × (b ≡ false) × (c ≡ false)
none_fits true b c e = absurd (false≢true (sym (ap is_some e)))
none_fits false true c e = absurd (false≢true (sym (ap is_some e)))
none_fits false false true e = absurd (false≢true (sym (ap is_some e)))
none_fits false false false e = (refl, refl, refl)

-- an event that isn't refused is so by none of the rules
pub no_rule_fits : (g : Parts) (h : List Event) (e : Event) → refusal_of g h e ≡ None → (nat_lt e.time.0 (now h) ≡ false) × (names_open g h e.what ≡ false) × (loops g h e.what ≡ false)
unfolding refusal_of
no_rule_fits g h e r = none_fits (nat_lt e.time.0 (now h)) (names_open g h e.what) (loops g h e.what) r

pub history_is_timely : (g : Parts) (h : List Event) → IsHistory g h → IsTimely h
history_is_timely g [] a = tt
history_is_timely g (e ∷ h) a = (ltb-false e.time.0 (now h) (no_rule_fits g h e a.1).0, history_is_timely g h a.2)

by_order : (b closed : Bool) (w : Want) (before : Mark) → (says_opened before ≡ true → closed ≡ true) → says_opened (cond b mark.Nothing before) ≡ true → cond b (is_wanted_closed w) closed ≡ true
by_order true closed w before h e = absurd (false≢true e)
by_order false closed w before h e = h e

never_open : (holds : Bool) → says_opened (fine_while holds) ≡ true → ⊥
never_open true e = false≢true e
never_open false e = false≢true e

by_restore : (b holds closed : Bool) (before : Mark) → (says_opened before ≡ true → closed ≡ true) → says_opened (cond b (fine_while holds) before) ≡ true → closed ≡ true
by_restore true holds closed before h e = absurd (never_open holds e)
by_restore false holds closed before h e = h e

by_word : (b closed : Bool) (said before : Mark) → (b ≡ true → closed ≡ true) → (says_opened before ≡ true → closed ≡ true) → says_opened (cond b said before) ≡ true → closed ≡ true
by_word true closed said before own h e = own refl
by_word false closed said before own h e = h e

marked_step : (g : Parts) (h : List Event) (w : What) (holds : Bool) (d : ℕ) (before : Mark) → names_open g h w ≡ false →
    (says_opened before ≡ true → is_closed g h d ≡ true) → says_opened (mark_by w holds d before) ≡ true → closed_by w d (is_closed g h d) ≡ true
marked_step g h (Order x w) holds d before no_name known e = by_order (x.0 == d) (is_closed g h d) w before known e
marked_step g h (Restore x) holds d before no_name known e = by_restore (x.0 == d) holds (is_closed g h d) before known e
marked_step g h (Confirm x c) holds d before no_name known e =
    by_word (x.0 == d) (is_closed g h d) (mark_said c holds) before (λ s. subst (λ y. is_closed g h y ≡ true) (eqb-true x.0 d s) (not-false (is_closed g h x.0) no_name)) known e
marked_step g h _ holds d before no_name known e = known e

-- what is marked open at some time is closed
pub marked_is_closed : (g : Parts) (t : ℕ) (h : List Event) (d : ℕ) → IsHistory g h → says_opened (mark_at g t h d) ≡ true → is_closed g h d ≡ true
marked_is_closed g t [] d a e = absurd (false≢true e)
marked_is_closed g t (x ∷ h) d a e =
    marked_step g h x.what (nat_lt t (x.time.0 + setting_of g OkHold)) d (mark_at g t h d) (no_rule_fits g h x a.1).1 (marked_is_closed g t h d a.2) e

past_step : (g : Parts) (w : What) (d : ℕ) (before : Bool) → IsOfGrid g w → length g.devices ≤ d → before ≡ false → closed_by w d before ≡ false
past_step g (Order x w) d before l past e = ap (λ b. cond b (is_wanted_closed w) before) (ne_eqb x.0 d (λ s. absurd (omega arith))) ∙ e
past_step g _ d before l past e = e

-- past the last device nothing is closed
pub past_is_open : (g : Parts) (h : List Event) (d : ℕ) → IsHistory g h → length g.devices ≤ d → is_closed g h d ≡ false
past_is_open g [] d a past = ap (λ v. v.starts_closed) (get_or_past g.devices d no_device past)
past_is_open g (e ∷ h) d a past = past_step g e.what d (is_closed g h d) a.0 past (past_is_open g h d a.2 past)

pub history_is_within_grid : (g : Parts) (h : List Event) → IsHistory g h → IsWithinGrid g h
history_is_within_grid g h a = record {
  closed = λ d past. past_is_open g h d a past;
  opened = λ d past. false_from_ne_true (says_opened (mark_at g (now h) h d)) (λ e. false≢true (sym (past_is_open g h d a past) ∙ marked_is_closed g (now h) h d a e));
  marked = λ d e. marked_is_closed g (now h) h d a e;
}
