-- What is kept of a meter stays where an event doesn't tell of it.
use Rattle.std.proofs.Common.{◌≡◌, ℕ, Bool, true, false, refl, sym, inl, inr}
use Rattle.std.specs.Prelude.{◌||◌, ◌⊎◌, Some, None, if◌then◌else◌}
use Rattle.grid_model.specs.declared.history.Event.{Event}
use Rattle.grid_model.specs.declared.history.What.{What}
use Rattle.grid_model.specs.declared.history.What.TheVariants.{Call, Gasp, PingDown, PingUp, Powerup, Confirm, Restore, Order, Clock}
use Rattle.history_rules.specs.Evidence.{is_call_of, is_signal_of, is_live_signal_of}
use Rattle.history_rules.specs.Slots.{Slots, slots_after}
use Rattle.evidence.specs.Kept.{Kept}
use Rattle.field_state.specs.Acted.{is_told, kept_after}

live_is_signal : (m : ℕ) (w : What) → is_signal_of m w ≡ false → is_live_signal_of m w ≡ false
live_is_signal m (PingUp x) n = n
live_is_signal m (Powerup x) n = n
live_is_signal m (Call x) n = refl
live_is_signal m (Gasp x) n = refl
live_is_signal m (PingDown x) n = refl
live_is_signal m (Confirm x c) n = refl
live_is_signal m (Restore x) n = refl
live_is_signal m (Order x w) n = refl
live_is_signal m Clock n = refl

-- slots by what an event is to the meter
slots_by : (call signal live brought : Bool) → Event → Slots → Slots
slots_by call signal live brought e s = record {
  signal = if signal then Some e else s.signal;
  back = if signal then None else (if brought then Some e.time.0 else s.back);
  call = if call then Some e else (if live || brought then None else s.call);
}

slots_stay : (call signal live brought : Bool) (e : Event) (s : Slots) → (call || signal || brought) ≡ false → live ≡ false →
    slots_by call signal live brought e s ≡ s
unfolding slots_by
slots_stay false false false false e s n l = refl
slots_stay false false true brought e s n l = cc
slots_stay false false false true e s n l = cc
slots_stay false true live brought e s n l = cc
slots_stay true signal live brought e s n l = cc

parts_of : (a b c : Bool) → (a || b || c) ≡ false → b ≡ false
parts_of true b c n = cc
parts_of false true c n = cc
parts_of false false c n = refl

pub untold_stay : (m : ℕ) (e : Event) (brought : Bool) (s : Slots) → is_told m e.what brought ≡ false → slots_after m e brought s ≡ s
unfolding slots_by
untold_stay m e brought s n =
    slots_stay (is_call_of m e.what) (is_signal_of m e.what) (is_live_signal_of m e.what) brought e s n
    (live_is_signal m e.what (parts_of (is_call_of m e.what) (is_signal_of m e.what) brought n))

slots_chosen : (told : Bool) (s after : Slots) (t at : ℕ) → (told ≡ false → after ≡ s) →
    (let k : Kept = if told then record { slots = after; at = t } else record { slots = s; at = at } in k.slots ≡ after)
slots_chosen true s after t at stay = refl
slots_chosen false s after t at stay = sym (stay refl)

-- what is kept after an event has the slots after it
pub kept_slots : (m : ℕ) (e : Event) (brought : Bool) (k : Kept) → (kept_after m e brought k).slots ≡ slots_after m e brought k.slots
kept_slots m e brought k =
    slots_chosen (is_told m e.what brought) k.slots (slots_after m e brought k.slots) e.time.0 k.at (untold_stay m e brought k.slots)

-- it is what was kept before, or is of the event's time
chosen : (told : Bool) (k new : Kept) (t : ℕ) → new.at ≡ t →
    (((if told then new else k) ≡ k) ⊎ ((if told then new else k).at ≡ t))
chosen true k new t q = inr q
chosen false k new t q = inl refl

pub kept_or_now : (m : ℕ) (e : Event) (brought : Bool) (k : Kept) → (kept_after m e brought k ≡ k) ⊎ ((kept_after m e brought k).at ≡ e.time.0)
kept_or_now m e brought k = chosen (is_told m e.what brought) k (record { slots = slots_after m e brought k.slots; at = e.time.0 }) e.time.0 refl
