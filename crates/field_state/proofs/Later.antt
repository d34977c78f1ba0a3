-- What is due after a time is not due at it.
use Rattle.std.proofs.Common.{◌≡◌, ℕ, ◌+◌, ◌<◌, Bool, true, false, refl}
use Rattle.std.specs.Prelude.{nat_lt, Option, Some, None, ◌==◌, if◌then◌else◌}
use Rattle.std.proofs.lemmas.Bool.{ltb-true}
use Rattle.grid_model.specs.Parts.{Parts}
use Rattle.grid_model.specs.Places.{setting_of}
use Rattle.grid_model.specs.declared.parts.Setting.TheVariants.{LiveHold, Grace}
use Rattle.grid_model.specs.declared.history.Event.{Event}
use Rattle.history_rules.specs.Evidence.{is_live_signal_of, is_dark_signal_of}
use Rattle.grid_model.specs.declared.history.What.{What}
use Rattle.grid_model.specs.declared.history.What.TheVariants.{Call, Gasp, PingDown, PingUp, Powerup, Confirm, Restore, Order, Clock}
use Rattle.grid_model.specs.declared.history.Confirmed.TheVariants as confirmed
use Rattle.history_rules.specs.Slots.{Slots, end_after, grace_after, due_of_signal, due_in}
use Rattle.field_state.specs.Fielded.{fine_end_by}

-- a time is later than t where there is one
abbrev pub IsLater : ℕ → Option ℕ → Type 0
IsLater t due = (end : ℕ) → due ≡ Some end → t < end

pub none_is_later : (t : ℕ) → IsLater t None
none_is_later t end q = cc

end_if : (b : Bool) (t end : ℕ) → (b ≡ true → t < end) → IsLater t (if b then Some end else None)
end_if true t end later u q = let e : end ≡ u = cc in rw (← e) (later refl)
end_if false t end later u q = cc

pub end_is_later : (t end : ℕ) → IsLater t (end_after t end)
end_is_later t end = end_if (nat_lt t end) t end (ltb-true t end)

either : (b : Bool) (t : ℕ) (x y : Option ℕ) → IsLater t x → IsLater t y → IsLater t (if b then x else y)
either true t x y lx ly = lx
either false t x y lx ly = ly

grace_is_later : (g : Parts) (t : ℕ) (back : Option ℕ) → IsLater t (grace_after g t back)
grace_is_later g t None = none_is_later t
grace_is_later g t (Some s) = end_is_later t (s + setting_of g Grace)

signal_is_later : (g : Parts) (m t : ℕ) (back : Option ℕ) (signal : Option Event) → IsLater t (due_of_signal g m t back signal)
signal_is_later g m t back None = none_is_later t
signal_is_later g m t back (Some e) =
    either (is_live_signal_of m e.what) t _ _ (end_is_later t (e.time.0 + setting_of g LiveHold))
    (either (is_dark_signal_of m e.what) t _ _ (grace_is_later g t back) (none_is_later t))

pub due_is_later : (g : Parts) (m t : ℕ) (s : Slots) → IsLater t (due_in g m t s)
due_is_later g m t s = signal_is_later g m t s.back s.signal

-- the end that an event leaves is later
pub end_by_is_later : (w : What) (t : ℕ) (end : Option ℕ) (d : ℕ) → IsLater t end → IsLater t (fine_end_by w end d None)
end_by_is_later (Order x w) t end d later = either (x.0 == d) t None None (none_is_later t) (none_is_later t)
end_by_is_later (Confirm x confirmed.Opened) t end d later = either (x.0 == d) t None None (none_is_later t) (none_is_later t)
end_by_is_later (Confirm x confirmed.Fine) t end d later = either (x.0 == d) t end None later (none_is_later t)
end_by_is_later (Confirm x confirmed.Cleared) t end d later = either (x.0 == d) t None None (none_is_later t) (none_is_later t)
end_by_is_later (Restore x) t end d later = either (x.0 == d) t end None later (none_is_later t)
end_by_is_later (Call m) t end d later = none_is_later t
end_by_is_later (Gasp m) t end d later = none_is_later t
end_by_is_later (PingDown m) t end d later = none_is_later t
end_by_is_later (PingUp m) t end d later = none_is_later t
end_by_is_later (Powerup m) t end d later = none_is_later t
end_by_is_later Clock t end d later = none_is_later t
