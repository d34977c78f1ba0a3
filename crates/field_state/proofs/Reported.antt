-- Where the next change of what a meter's reports weigh is due at the same time, the same dark reports count.
use Rattle.std.proofs.Common.{◌≡◌, ℕ, ◌+◌, Bool, true, false, cond, refl, sym, ap, Option, Some, None}
use Rattle.std.specs.Prelude.{◌&&◌, not, is_some, nat_lt}
use Rattle.std.proofs.lemmas.Bool.{false≢true}
use Rattle.grid_model.specs.Parts.{Parts}
use Rattle.grid_model.specs.Places.{setting_of}
use Rattle.grid_model.specs.declared.parts.Setting.TheVariants.{LiveHold, Grace}
use Rattle.grid_model.specs.declared.history.Event.{Event}
use Rattle.grid_model.specs.declared.history.What.{What}
use Rattle.grid_model.specs.declared.history.What.TheVariants.{Gasp, PingDown}
use Rattle.history_rules.specs.Evidence.{is_dark_signal_of, is_live_signal_of, earliest, time_in, passing}
use Rattle.history_rules.specs.Slots.{Slots, is_quiet, end_after, grace_after, due_of_signal, due_in, since_in, came_back_in}

dark_not_live : (m : ℕ) (w : What) → is_dark_signal_of m w ≡ true → is_live_signal_of m w ≡ false
dark_not_live m (Gasp x) e = refl
dark_not_live m (PingDown x) e = refl
dark_not_live m _ e = absurd (false≢true e)

same_end : (a b : Bool) (x : ℕ) → cond a (Some x) None ≡ cond b (Some x) None → a ≡ b
same_end true true x e = refl
same_end true false x e = ap is_some e
same_end false true x e = ap is_some e
same_end false false x e = refl

same_quiet : (g : Parts) (t u : ℕ) (back : Option ℕ) → grace_after g t back ≡ grace_after g u back → is_quiet t (setting_of g Grace) back ≡ is_quiet u (setting_of g Grace) back
same_quiet g t u None e = refl
same_quiet g t u (Some s) e = same_end (nat_lt t (s + setting_of g Grace)) (nat_lt u (s + setting_of g Grace)) (s + setting_of g Grace) e

by_due : (dark live : Bool) (x y a b : Option ℕ) (q r : Bool) → (dark ≡ true → live ≡ false) → (a ≡ b → q ≡ r) → cond live x (cond dark a None) ≡ cond live y (cond dark b None) → (dark && not q) ≡ (dark && not r)
by_due true true x y a b q r f h e = absurd (false≢true (sym (f refl)))
by_due true false x y a b q r f h e = ap not (h e)
by_due false live x y a b q r f h e = refl

-- where the next change is due at the same time, the same dark signal counts
same_counted : (g : Parts) (m t u : ℕ) (back : Option ℕ) (signal : Option Event) → due_of_signal g m t back signal ≡ due_of_signal g m u back signal
    → passing (λ e. is_dark_signal_of m e.what && not (is_quiet t (setting_of g Grace) back)) signal ≡ passing (λ e. is_dark_signal_of m e.what && not (is_quiet u (setting_of g Grace) back)) signal
same_counted g m t u back None due = refl
same_counted g m t u back (Some e) due =
    ap (λ b. cond b (Some e) None)
    (by_due (is_dark_signal_of m e.what) (is_live_signal_of m e.what) (end_after t (e.time.0 + setting_of g LiveHold)) (end_after u (e.time.0 + setting_of g LiveHold)) (grace_after g t back) (grace_after g u back)
    (is_quiet t (setting_of g Grace) back) (is_quiet u (setting_of g Grace) back) (dark_not_live m e.what) (same_quiet g t u back) due)

module _ (g : Parts) (m t u : ℕ) (s : Slots) (due : due_in g m t s ≡ due_in g m u s) where
  -- so the earliest time of one is the same
  pub since_stays : since_in g m t s ≡ since_in g m u s
  since_stays = ap (λ x. earliest (time_in s.call) (time_in x)) (same_counted g m t u s.back s.signal due)

  -- and whether a restoration came after one
  pub came_back_stays : came_back_in g m t s ≡ came_back_in g m u s
  came_back_stays = ap (λ x. is_some x && is_some s.back) (same_counted g m t u s.back s.signal due)
