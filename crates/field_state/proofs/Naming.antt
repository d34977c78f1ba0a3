-- An event changes the mark of the device that it names, and no other.
use Rattle.std.proofs.Common.{◌≡◌, ℕ, Bool, true, false, refl, ap, ◌∙◌, sym}
use Rattle.std.specs.Prelude.{◌==◌, Option, None, if◌then◌else◌}
use Rattle.grid_model.specs.declared.history.What.{What}
use Rattle.grid_model.specs.declared.history.What.TheVariants.{Call, Gasp, PingDown, PingUp, Powerup, Confirm, Restore, Order, Clock}
use Rattle.grid_model.specs.declared.history.Mark.{Mark}
use Rattle.grid_model.specs.declared.history.Mark.TheVariants as mark
use Rattle.grid_model.specs.declared.history.Confirmed.TheVariants as confirmed
use Rattle.history_rules.specs.State.{mark_by, mark_said, fine_while}
use Rattle.field_state.specs.Fielded.{fine_end_by}

-- the event names the device
abbrev pub is_named : What → ℕ → Bool
is_named (Order x w) d = x.0 == d
is_named (Confirm x c) d = x.0 == d
is_named (Restore x) d = x.0 == d
is_named _ d = false

pub mark_stays : (w : What) (holds : Bool) (d : ℕ) (before : Mark) → is_named w d ≡ false → mark_by w holds d before ≡ before
mark_stays (Order x w) holds d before n = ap (λ b. if b then mark.Nothing else before) n
mark_stays (Confirm x c) holds d before n = ap (λ b. if b then mark_said c holds else before) n
mark_stays (Restore x) holds d before n = ap (λ b. if b then fine_while holds else before) n
mark_stays (Call m) holds d before n = refl
mark_stays (Gasp m) holds d before n = refl
mark_stays (PingDown m) holds d before n = refl
mark_stays (PingUp m) holds d before n = refl
mark_stays (Powerup m) holds d before n = refl
mark_stays Clock holds d before n = refl

-- the mark of the named device doesn't depend on the one before
pub mark_is_set : (w : What) (holds : Bool) (d : ℕ) (a b : Mark) → is_named w d ≡ true → mark_by w holds d a ≡ mark_by w holds d b
mark_is_set (Order x w) holds d a b n = ap (λ t. if t then mark.Nothing else a) n ∙ sym (ap (λ t. if t then mark.Nothing else b) n)
mark_is_set (Confirm x c) holds d a b n = ap (λ t. if t then mark_said c holds else a) n ∙ sym (ap (λ t. if t then mark_said c holds else b) n)
mark_is_set (Restore x) holds d a b n = ap (λ t. if t then fine_while holds else a) n ∙ sym (ap (λ t. if t then fine_while holds else b) n)
mark_is_set (Call m) holds d a b n = cc
mark_is_set (Gasp m) holds d a b n = cc
mark_is_set (PingDown m) holds d a b n = cc
mark_is_set (PingUp m) holds d a b n = cc
mark_is_set (Powerup m) holds d a b n = cc
mark_is_set Clock holds d a b n = cc

-- the same of the time at which it is due
pub end_stays : (w : What) (end : Option ℕ) (d : ℕ) (before : Option ℕ) → is_named w d ≡ false → fine_end_by w end d before ≡ before
end_stays (Order x w) end d before n = ap (λ b. if b then None else before) n
end_stays (Confirm x confirmed.Opened) end d before n = ap (λ b. if b then None else before) n
end_stays (Confirm x confirmed.Fine) end d before n = ap (λ b. if b then end else before) n
end_stays (Confirm x confirmed.Cleared) end d before n = ap (λ b. if b then None else before) n
end_stays (Restore x) end d before n = ap (λ b. if b then end else before) n
end_stays (Call m) end d before n = refl
end_stays (Gasp m) end d before n = refl
end_stays (PingDown m) end d before n = refl
end_stays (PingUp m) end d before n = refl
end_stays (Powerup m) end d before n = refl
end_stays Clock end d before n = refl

pub end_is_set : (w : What) (end : Option ℕ) (d : ℕ) (a b : Option ℕ) → is_named w d ≡ true → fine_end_by w end d a ≡ fine_end_by w end d b
end_is_set (Order x w) end d a b n = ap (λ t. if t then None else a) n ∙ sym (ap (λ t. if t then None else b) n)
end_is_set (Confirm x confirmed.Opened) end d a b n = ap (λ t. if t then None else a) n ∙ sym (ap (λ t. if t then None else b) n)
end_is_set (Confirm x confirmed.Fine) end d a b n = ap (λ t. if t then end else a) n ∙ sym (ap (λ t. if t then end else b) n)
end_is_set (Confirm x confirmed.Cleared) end d a b n = ap (λ t. if t then None else a) n ∙ sym (ap (λ t. if t then None else b) n)
end_is_set (Restore x) end d a b n = ap (λ t. if t then end else a) n ∙ sym (ap (λ t. if t then end else b) n)
end_is_set (Call m) end d a b n = cc
end_is_set (Gasp m) end d a b n = cc
end_is_set (PingDown m) end d a b n = cc
end_is_set (PingUp m) end d a b n = cc
end_is_set (Powerup m) end d a b n = cc
end_is_set Clock end d a b n = cc
