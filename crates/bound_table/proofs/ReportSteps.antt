-- The reading of a report, line by line.
use Rattle.std.proofs.Common.{◌≡◌, ◌+◌, ◌==◌, true, false, ℕ, suc, length, arith, List, [], ◌∷◌, ◌++◌, refl, ap, sym, ◌∙◌, inl, inr, append_assoc}
use Rattle.std.specs.Prelude.{if◌then◌else◌}
use Rattle.std.specs.List.{list_any}
use Rattle.std.proofs.lemmas.Bool.{cases_Bool, or_parts, eqb-true}
use Rattle.std.proofs.lemmas.List.{append-nil}
use Rattle.grid_model.specs.Parts.{Parts}
use Rattle.event_rules.specs.Lines.{is_empty}
use Rattle.bound_table.specs.declared.bounds.BoundRule.{BoundRule}
use Rattle.bound_table.specs.declared.bounds.BoundRule.TheVariants.{Trailing}
use Rattle.bound_table.specs.declared.bounds.BoundFault.{BoundFault}
use Rattle.bound_table.specs.declared.bounds.BoundFault.TheVariants.{Refused, Memory}
use Rattle.bound_table.specs.Table.{Table}
use Rattle.bound_table.specs.Faults.{IsFaultOf, IsFaultAt}
use Rattle.bound_table.specs.ReportLines.{ended_from, unended_from}
use Rattle.bound_table.specs.Report.{Progress, Ended, Stopped, ReportReading, IsRead, IsRefused, with_line, at_end, after_lines, after_text}

-- a text is cut at its first LF
ended_from-cut : (part front behind : List ℕ) → list_any (λ b. b == 10) front ≡ false → ended_from part (front ++ 10 ∷ behind) ≡ (part ++ front) ∷ ended_from [] behind
unfolding ended_from
ended_from-cut part [] behind h = ap (λ z. z ∷ ended_from [] behind) (sym (append-nil part))
ended_from-cut part (b ∷ front) behind h =
    let parts = or_parts (b == 10) (list_any (λ b. b == 10) front) h in
    rw parts.0 (ended_from-cut (part ++ b ∷ []) front behind parts.1 ∙ ap (λ z. z ∷ ended_from [] behind) (append_assoc part (b ∷ []) front))

unended_from-cut : (part front behind : List ℕ) → list_any (λ b. b == 10) front ≡ false → unended_from part (front ++ 10 ∷ behind) ≡ unended_from [] behind
unfolding unended_from
unended_from-cut part [] behind h = refl
unended_from-cut part (b ∷ front) behind h =
    let parts = or_parts (b == 10) (list_any (λ b. b == 10) front) h in
    rw parts.0 (unended_from-cut (part ++ b ∷ []) front behind parts.1)

-- a text without an LF has no line
ended_from-none : (part text : List ℕ) → list_any (λ b. b == 10) text ≡ false → ended_from part text ≡ []
unfolding ended_from
ended_from-none part [] h = refl
ended_from-none part (b ∷ text) h =
    let parts = or_parts (b == 10) (list_any (λ b. b == 10) text) h in
    rw parts.0 (ended_from-none (part ++ b ∷ []) text parts.1)

unended_from-whole : (part text : List ℕ) → list_any (λ b. b == 10) text ≡ false → unended_from part text ≡ part ++ text
unfolding unended_from
unended_from-whole part [] h = sym (append-nil part)
unended_from-whole part (b ∷ text) h =
    let parts = or_parts (b == 10) (list_any (λ b. b == 10) text) h in
    rw parts.0 (unended_from-whole (part ++ b ∷ []) text parts.1 ∙ append_assoc part (b ∷ []) text)

-- one line
pub after_text-line : (g : Parts) (p : Progress) (n : ℕ) (front behind : List ℕ) → list_any (λ b. b == 10) front ≡ false → after_text g p n (front ++ 10 ∷ behind) ≡ after_text g (with_line g n front p) (n + 1) behind
unfolding after_text after_lines
after_text-line g p n front behind h = rw (ended_from-cut [] front behind h, unended_from-cut [] front behind h) refl

-- no line
pub after_text-end : (g : Parts) (p : Progress) (n : ℕ) (text : List ℕ) → list_any (λ b. b == 10) text ≡ false → after_text g p n text ≡ at_end p n text
unfolding after_text after_lines
after_text-end g p n text h = rw (ended_from-none [] text h, unended_from-whole [] text h) refl

-- the first line that breaks a rule stays
after_lines-stopped : (g : Parts) (k : ℕ) (rule : BoundRule) (n : ℕ) (lines : List (List ℕ)) (part : List ℕ) → after_lines g (Stopped k rule) n lines part ≡ IsRefused k rule
unfolding after_lines
after_lines-stopped g k rule n [] part = refl
after_lines-stopped g k rule n (line ∷ lines) part = after_lines-stopped g k rule (n + 1) lines part

pub after_text-stopped : (g : Parts) (k : ℕ) (rule : BoundRule) (n : ℕ) (text : List ℕ) → after_text g (Stopped k rule) n text ≡ IsRefused k rule
unfolding after_text
after_text-stopped g k rule n text = after_lines-stopped g k rule n (ended_from [] text) (unended_from [] text)

-- a line that breaks a rule
pub after_text-breaks : (g : Parts) (p : Progress) (k j : ℕ) (rule : BoundRule) (front behind text : List ℕ) → text ≡ front ++ 10 ∷ behind → list_any (λ b. b == 10) front ≡ false → with_line g k front p ≡ Stopped j rule → after_text g p k text ≡ IsRefused j rule
after_text-breaks g p k j rule front behind text e h s =
    ap (after_text g p k) e ∙ after_text-line g p k front behind h ∙ ap (λ z. after_text g z (k + 1) behind) s ∙ after_text-stopped g j rule (k + 1) behind

pub fault_carried : (g : Parts) (p : Progress) (k : ℕ) (front behind text : List ℕ) (fault : BoundFault) → text ≡ front ++ 10 ∷ behind → list_any (λ b. b == 10) front ≡ false → IsFaultAt (with_line g k front p) fault → IsFaultOf (after_text g p k text) fault
fault_carried g p k front behind text (Refused j rule) e h s = after_text-breaks g p k j rule front behind text e h s
fault_carried g p k front behind text Memory e h s = tt

-- a fault of a reading that is another one
pub fault_moved : (a b : ReportReading) (fault : BoundFault) → a ≡ b → IsFaultOf b fault → IsFaultOf a fault
fault_moved a b (Refused j rule) e s = e ∙ s
fault_moved a b Memory e s = tt

-- a line that is taken
pub after_text-takes : (g : Parts) (p q : Progress) (k : ℕ) (front behind text : List ℕ) → text ≡ front ++ 10 ∷ behind → list_any (λ b. b == 10) front ≡ false → with_line g k front p ≡ q → after_text g p k text ≡ after_text g q (k + 1) behind
after_text-takes g p q k front behind text e h s =
    ap (after_text g p k) e ∙ after_text-line g p k front behind h ∙ ap (λ z. after_text g z (k + 1) behind) s

-- what stands behind the end of the bounds part
trailing_from : (g : Parts) (t : Table) (n : ℕ) (part text : List ℕ) → is_empty part ≡ false → after_lines g (Ended t) n (ended_from part text) (unended_from part text) ≡ IsRefused n Trailing
unfolding after_lines ended_from unended_from
trailing_from g t n part [] h = rw h refl
trailing_from g t n part (b ∷ text) h =
    elim (cases_Bool (b == 10)) [
      | inl end ↦ rw end (after_lines-stopped g n Trailing (n + 1) (ended_from [] text) (unended_from [] text))
      | inr other ↦ rw other (trailing_from g t n (part ++ b ∷ []) text (not_empty part b))
    ]
  where
    not_empty : (part : List ℕ) (b : ℕ) → is_empty (part ++ b ∷ []) ≡ false
    not_empty [] b = refl
    not_empty (c ∷ part) b = refl

pub after_text-ended : (g : Parts) (t : Table) (n : ℕ) (text : List ℕ) → after_text g (Ended t) n text ≡ (if is_empty text then IsRead t else IsRefused n Trailing)
unfolding after_text after_lines ended_from unended_from
after_text-ended g t n [] = refl
after_text-ended g t n (b ∷ text) =
    elim (cases_Bool (b == 10)) [
      | inl end ↦ rw end (after_lines-stopped g n Trailing (n + 1) (ended_from [] text) (unended_from [] text))
      | inr other ↦ rw other (trailing_from g t n (b ∷ []) text refl)
    ]

-- nothing stands there
pub after_text-whole : (g : Parts) (t : Table) (n : ℕ) (text : List ℕ) → (length text == 0) ≡ true → after_text g (Ended t) n text ≡ IsRead t
after_text-whole g t n [] h = after_text-ended g t n []
after_text-whole g t n (b ∷ text) h = let none = eqb-true (suc (length text)) 0 h in absurd (omega arith)

-- something stands there
pub after_text-more : (g : Parts) (t : Table) (n : ℕ) (text : List ℕ) → (length text == 0) ≡ false → after_text g (Ended t) n text ≡ IsRefused n Trailing
after_text-more g t n [] h = cc
after_text-more g t n (b ∷ text) h = after_text-ended g t n (b ∷ text)
