-- No time that a report names is later than the last event.
use Rattle.std.proofs.Common.{ℕ, ◌≤◌, min, Bool, true, false, cond, arith, List, [], ◌∷◌, Option, Some, None}
use Rattle.std.specs.Prelude.{IfSome, ⊤}
use Rattle.std.specs.List.{fold}
use Rattle.grid_model.specs.Parts.{Parts}
use Rattle.grid_model.specs.declared.history.Event.{Event}
use Rattle.grid_model.specs.declared.history.What.{What}
use Rattle.history_rules.specs.State.{now}
use Rattle.history_rules.specs.Evidence.{last_of, passing, time_in, earliest, dark_since, counted_call, counted_dark_signal, is_call_of, is_signal_of}
use Rattle.history_rules.specs.Outages.{since_of}
use Rattle.history_rules.specs.Slots.{IsTimely}

-- no event is later than a time
abbrev pub AreBy : ℕ → List Event → Type 0
AreBy t [] = ⊤
AreBy t (e ∷ h) = (e.time.0 ≤ t) × AreBy t h

pub are_by : (t : ℕ) (h : List Event) → IsTimely h → now h ≤ t → AreBy t h
are_by t [] timely l = tt
are_by t (e ∷ h) timely l = (l, are_by t h timely.1 (let before = timely.0 in omega arith))

-- a time, where there is one, is no later
abbrev pub IsBy : ℕ → Option ℕ → Type 0
IsBy t o = IfSome o (λ s. s ≤ t)

last_by : (t : ℕ) (sort : What → Bool) (h : List Event) → AreBy t h → IsBy t (time_in (last_of sort h))
last_by t sort [] by = tt
last_by t sort (e ∷ h) by = pick (sort e.what) (last_of sort h) by.0 (last_by t sort h by.1)
  where
    pick : (b : Bool) (o : Option Event) → e.time.0 ≤ t → IsBy t (time_in o) → IsBy t (time_in (cond b (Some e) o))
    pick true o here rest = here
    pick false o here rest = rest

passing_by : (t : ℕ) (test : Event → Bool) (o : Option Event) → IsBy t (time_in o) → IsBy t (time_in (passing test o))
passing_by t test None h = tt
passing_by t test (Some e) h = pick (test e)
  where
    pick : (b : Bool) → IsBy t (time_in (cond b (Some e) None))
    pick true = h
    pick false = tt

earliest_by : (t : ℕ) (a b : Option ℕ) → IsBy t a → IsBy t b → IsBy t (earliest a b)
earliest_by t None b ha hb = hb
earliest_by t (Some x) None ha hb = ha
earliest_by t (Some x) (Some y) ha hb = let h : min x y ≤ t = omega arith in h

pub dark_by : (t : ℕ) (g : Parts) (h : List Event) (m : ℕ) → AreBy t h → IsBy t (dark_since g h m)
dark_by t g h m by =
    earliest_by t (time_in (counted_call g h m)) (time_in (counted_dark_signal g h m))
    (passing_by t _ (last_of (is_call_of m) h) (last_by t (is_call_of m) h by))
    (passing_by t _ (last_of (is_signal_of m) h) (last_by t (is_signal_of m) h by))

fold_by : (t : ℕ) (f : ℕ → Option ℕ) (o : Option ℕ) (ms : List ℕ) → ((m : ℕ) → IsBy t (f m)) → IsBy t o → IsBy t (fold (λ s m. earliest s (f m)) o ms)
fold_by t f o [] all h = h
fold_by t f o (m ∷ ms) all h = fold_by t f (earliest o (f m)) ms all (earliest_by t o (f m) h (all m))

pub since_by : (t : ℕ) (g : Parts) (h : List Event) (ms : List ℕ) → AreBy t h → IsBy t (since_of g h ms)
since_by t g h ms by = fold_by t (dark_since g h) None ms (λ m. dark_by t g h m by) tt
