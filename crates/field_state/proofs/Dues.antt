-- How many times have come, as one of them is changed.
use Rattle.std.proofs.Common.{◌≡◌, ℕ, zero, suc, ◌+◌, ◌<◌, Bool, true, false, cond, nat_lt, List, [], ◌∷◌, length, set, get_or, Option, Some, None, refl, ap, ◌∙◌, arith}
use Rattle.std.proofs.lemmas.Bool.{le-leb, lt-leb, ltb-true}
use Rattle.grid_model.specs.Parts.{Parts}
use Rattle.grid_model.specs.Places.{setting_of}
use Rattle.grid_model.specs.declared.parts.Setting.TheVariants.{LiveHold, Grace}
use Rattle.grid_model.specs.declared.history.Event.{Event}
use Rattle.due_queue.specs.Due.{IsDue}
use Rattle.history_rules.specs.Evidence.{is_live_signal_of, is_dark_signal_of}
use Rattle.history_rules.specs.Slots.{Slots, due_in, due_of_signal, grace_after, end_after}
use Rattle.field_state.specs.Weighed.{has_come, dues}

-- one for a time that has come
abbrev come : ℕ → Option ℕ → ℕ
come t x = cond (has_come t x) 1 0

dues_set : (t : ℕ) (xs : List (Option ℕ)) (k : ℕ) (x : Option ℕ) → k < length xs → dues t (set xs k x) + come t (get_or xs k None) ≡ dues t xs + come t x
dues_set t [] k x l = absurd (omega arith)
dues_set t (y ∷ ys) zero x l = let e : (come t x + dues t ys) + come t y ≡ (come t y + dues t ys) + come t x = omega arith in e
dues_set t (y ∷ ys) (suc k) x l =
    let rest = dues_set t ys k x (omega arith) in
    let e : (come t y + dues t (set ys k x)) + come t (get_or ys k None) ≡ (come t y + dues t ys) + come t x = omega arith in e

-- fewer, where one that had come is changed to one that has not
pub fewer : (t : ℕ) (xs : List (Option ℕ)) (k : ℕ) (x : Option ℕ) → k < length xs → IsDue xs t k → has_come t x ≡ false → dues t (set xs k x) < dues t xs
fewer t xs k x l due not_yet =
    let moved = dues_set t xs k x l in
    let was = ap (come t) due.1 ∙ ap (λ b. cond b 1 0) (le-leb due.0 t due.2) in
    let is : come t x ≡ 0 = ap (λ b. cond b 1 0) not_yet in
    omega arith

-- the end of a hold comes later
pub end_later : (t x : ℕ) → has_come t (end_after t x) ≡ false
end_later t x = at (nat_lt t x) refl
  where
    at : (b : Bool) → nat_lt t x ≡ b → has_come t (cond b (Some x) None) ≡ false
    at true e = lt-leb x t (ltb-true t x e)
    at false e = refl

-- and so does the next change of what a meter weighs
pub due_later : (g : Parts) (m t : ℕ) (s : Slots) → has_come t (due_in g m t s) ≡ false
due_later g m t s = at s.signal
  where
    grace : (back : Option ℕ) → has_come t (grace_after g t back) ≡ false
    grace None = refl
    grace (Some r) = end_later t (r + setting_of g Grace)

    either : (live dark : Bool) (e : Event) → has_come t (cond live (end_after t (e.time.0 + setting_of g LiveHold)) (cond dark (grace_after g t s.back) None)) ≡ false
    either true dark e = end_later t (e.time.0 + setting_of g LiveHold)
    either false true e = grace s.back
    either false false e = refl

    at : (o : Option Event) → has_come t (due_of_signal g m t s.back o) ≡ false
    at None = refl
    at (Some e) = either (is_live_signal_of m e.what) (is_dark_signal_of m e.what) e
