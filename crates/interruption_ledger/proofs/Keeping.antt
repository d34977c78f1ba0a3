-- One start tells the open line of a meter, and the ended lines the others.
use Rattle.std.proofs.Common.{◌≡◌, ℕ, Bool, true, false, List, [], ◌∷◌, ◌++◌, reverse, refl, sym, ap, ◌∙◌}
use Rattle.std.specs.Prelude.{Option, Some, None, if◌then◌else◌}
use Rattle.std.proofs.lemmas.Bool.{false≢true}
use Rattle.grid_model.specs.declared.history.Event.{Event}
use Rattle.grid_model.specs.declared.history.Stamp.{Stamp}
use Rattle.history_rules.specs.Ledger.{Interrupted, begun, lines_before, line_from, interrupted_by, interrupted_of}
use Rattle.interruption_ledger.specs.Laws.{IsKept}

-- a meter that is live has no open line
closed_when_live : (m : ℕ) (t : Stamp) (b c : Bool) (k : Interrupted) → (c ≡ false → k.start ≡ None) → b ≡ false → (interrupted_by m t b c k).start ≡ None
closed_when_live m t true c k none e = absurd (false≢true (sym e))
closed_when_live m t false true k none e = refl
closed_when_live m t false false k none e = none refl

no_start : (m : ℕ) (dark : List Event → Bool) (h : List Event) → dark h ≡ false → (interrupted_of m dark h).start ≡ None
no_start m dark [] e = refl
no_start m dark (x ∷ h) e = closed_when_live m x.time (dark (x ∷ h)) (dark h) (interrupted_of m dark h) (no_start m dark h) e

one_step : (m : ℕ) (t : Stamp) (next : Option Stamp) (b c : Bool) (k : Interrupted) → (c ≡ false → k.start ≡ None) →
    begun m t next b c ++ (line_from m k.start (if b then next else Some t) ++ k.ended) ≡ line_from m (interrupted_by m t b c k).start next ++ (interrupted_by m t b c k).ended
one_step m t next true true k none = refl
one_step m t next true false k none = ap (λ s. line_from m (Some t) next ++ (line_from m s next ++ k.ended)) (none refl)
one_step m t next false true k none = refl
one_step m t next false false k none =
    ap (λ s. line_from m s (Some t) ++ k.ended) (none refl) ∙ sym (ap (λ s. line_from m s next ++ k.ended) (none refl))

lines_are_kept : (m : ℕ) (dark : List Event → Bool) (next : Option Stamp) (h : List Event) →
    lines_before m dark next h ≡ line_from m (interrupted_of m dark h).start next ++ (interrupted_of m dark h).ended
lines_are_kept m dark next [] = refl
lines_are_kept m dark next (e ∷ h) =
    ap (λ ls. begun m e.time next (dark (e ∷ h)) (dark h) ++ ls) (lines_are_kept m dark (if dark (e ∷ h) then next else Some e.time) h)
    ∙ one_step m e.time next (dark (e ∷ h)) (dark h) (interrupted_of m dark h) (no_start m dark h)

dark_by : (m : ℕ) (t : Stamp) (b c : Bool) (k : Interrupted) → k.dark ≡ c → (interrupted_by m t b c k).dark ≡ b
dark_by m t true true k e = e
dark_by m t true false k e = refl
dark_by m t false true k e = refl
dark_by m t false false k e = e

dark_is_kept : (m : ℕ) (dark : List Event → Bool) (h : List Event) → (interrupted_of m dark h).dark ≡ dark h
dark_is_kept m dark [] = refl
dark_is_kept m dark (e ∷ h) = dark_by m e.time (dark (e ∷ h)) (dark h) (interrupted_of m dark h) (dark_is_kept m dark h)

pub is_kept : (m : ℕ) (dark : List Event → Bool) (h : List Event) → IsKept m dark h
is_kept m dark h = record {
  lines = ap reverse (sym (lines_are_kept m dark None h));
  is_dark = dark_is_kept m dark h;
}
