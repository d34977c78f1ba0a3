-- The mark of a device whose time has come.
use Rattle.std.proofs.Common.{◌≡◌, ℕ, ◌+◌, ◌≤◌, Bool, true, false, cond, nat_lt, List, [], ◌∷◌, Option, Some, None, refl, ap, arith}
use Rattle.std.specs.Prelude.{◌==◌}
use Rattle.std.proofs.lemmas.Bool.{le-ltb}
use Rattle.grid_model.specs.Parts.{Parts}
use Rattle.grid_model.specs.Places.{setting_of}
use Rattle.grid_model.specs.declared.parts.Setting.TheVariants.{OkHold}
use Rattle.grid_model.specs.declared.history.Event.{Event}
use Rattle.grid_model.specs.declared.history.Mark.{Mark}
use Rattle.grid_model.specs.declared.history.Mark.TheVariants as mark
use Rattle.grid_model.specs.declared.history.What.{What}
use Rattle.grid_model.specs.declared.history.What.TheVariants.{Call, Gasp, PingDown, PingUp, Powerup, Confirm, Restore, Order, Clock}
use Rattle.grid_model.specs.declared.history.Confirmed.TheVariants as confirmed
use Rattle.history_rules.specs.State.{mark_at, mark_by, fine_while}
use Rattle.history_rules.specs.Slots.{end_after}
use Rattle.field_state.specs.Fielded.{mark_due, fine_end_by}

-- a mark that says nothing, and never changes by itself
abbrev IsOver : Mark → Option ℕ → Type 0
IsOver m due = (m ≡ mark.Nothing) × (due ≡ None)

-- the end of a hold
ended : (b : Bool) (x end : ℕ) → cond b (Some x) None ≡ Some end → x ≡ end
ended true x end e = cc
ended false x end e = absurd (cc)

over : (u t x end : ℕ) → end_after u x ≡ Some end → end ≤ t → IsOver (fine_while (nat_lt t x)) (end_after t x)
over u t x end e l =
    let q = ended (nat_lt u x) x end e in
    let late = le-ltb t x (omega arith) in
    (ap fine_while late, ap (λ b. cond b (Some x) None) late)

-- by one event more, where the mark before it is over if its time is this one
step : (w : What) (d x u t end : ℕ) (due now_due : Option ℕ) (m : Mark) → end ≤ t → (due ≡ Some end → IsOver m now_due)
    → fine_end_by w (end_after u x) d due ≡ Some end → IsOver (mark_by w (nat_lt t x) d m) (fine_end_by w (end_after t x) d now_due)
step (Call y) d x u t end due now_due m l h e = h e
step (Gasp y) d x u t end due now_due m l h e = h e
step (PingDown y) d x u t end due now_due m l h e = h e
step (PingUp y) d x u t end due now_due m l h e = h e
step (Powerup y) d x u t end due now_due m l h e = h e
step Clock d x u t end due now_due m l h e = h e
step (Order y w) d x u t end due now_due m l h e = at (y.0 == d) e
  where
    at : (b : Bool) → cond b None due ≡ Some end → IsOver (cond b mark.Nothing m) (cond b None now_due)
    at true e = (refl, refl)
    at false e = h e
step (Confirm y confirmed.Opened) d x u t end due now_due m l h e = at (y.0 == d) e
  where
    at : (b : Bool) → cond b None due ≡ Some end → IsOver (cond b mark.Opened m) (cond b None now_due)
    at true e = absurd (cc)
    at false e = h e
step (Confirm y confirmed.Fine) d x u t end due now_due m l h e = at (y.0 == d) e
  where
    at : (b : Bool) → cond b (end_after u x) due ≡ Some end → IsOver (cond b (fine_while (nat_lt t x)) m) (cond b (end_after t x) now_due)
    at true e = over u t x end e l
    at false e = h e
step (Confirm y confirmed.Cleared) d x u t end due now_due m l h e = at (y.0 == d) e
  where
    at : (b : Bool) → cond b None due ≡ Some end → IsOver (cond b mark.Nothing m) (cond b None now_due)
    at true e = (refl, refl)
    at false e = h e
step (Restore y) d x u t end due now_due m l h e = at (y.0 == d) e
  where
    at : (b : Bool) → cond b (end_after u x) due ≡ Some end → IsOver (cond b (fine_while (nat_lt t x)) m) (cond b (end_after t x) now_due)
    at true e = over u t x end e l
    at false e = h e

pub expired : (g : Parts) (h : List Event) (d u t end : ℕ) → end ≤ t → mark_due g u h d ≡ Some end → (mark_at g t h d ≡ mark.Nothing) × (mark_due g t h d ≡ None)
expired g [] d u t end l e = absurd (cc)
expired g (v ∷ h) d u t end l e =
    step v.what d (v.time.0 + setting_of g OkHold) u t end (mark_due g u h d) (mark_due g t h d) (mark_at g t h d) l (expired g h d u t end l) e
