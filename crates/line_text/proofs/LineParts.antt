-- The first line of a text.
use Rattle.std.proofs.Common.{◌≡◌, ◌≢◌, ◌≤◌, ◌-◌, ◌==◌, ◌&&◌, true, false, ℕ, suc, zero, List, [], ◌∷◌, ◌++◌, length, get_or, take, refl, ap, inl, inr, arith, ◌∙◌}
use Rattle.std.specs.List.{list_any}
use Rattle.std.proofs.lemmas.Bool.{cases_Bool, or_parts, eq-eqb, ne_eqb}
use Rattle.event_rules.specs.Lines.{lines, lines_with}
use Rattle.line_text.specs.LineEnds.{without_cr}

-- a byte that is no LF, before an LF
before_lf : (b : ℕ) (behind : List (List ℕ)) → (b == 10) ≡ false → lines_with (b == 10) ((b == 13) && true) b ([] ∷ behind) ≡ without_cr (b ∷ []) ∷ behind
before_lf b behind h =
    elim (cases_Bool (b == 13)) [
      | inl cr ↦ rw (h, cr) refl
      | inr other ↦ rw (h, other) refl
    ]

-- a byte that is no LF, before a line
before_line : (b : ℕ) (line : List ℕ) (behind : List (List ℕ)) → (b == 10) ≡ false → lines_with (b == 10) ((b == 13) && false) b (line ∷ behind) ≡ (b ∷ line) ∷ behind
before_line b line behind h =
    elim (cases_Bool (b == 13)) [
      | inl cr ↦ rw (h, cr) refl
      | inr other ↦ rw (h, other) refl
    ]

-- a text is cut at its first LF
pub lines-cut : (front behind : List ℕ) → list_any (λ b. b == 10) front ≡ false → lines (front ++ 10 ∷ behind) ≡ without_cr front ∷ lines behind
unfolding lines
lines-cut [] behind h = refl
lines-cut (b ∷ []) behind h = before_lf b (lines behind) (or_parts (b == 10) false h).0
lines-cut (b ∷ c ∷ rest) behind h =
    let parts = or_parts (b == 10) (list_any (λ b. b == 10) (c ∷ rest)) h in
    let next = or_parts (c == 10) (list_any (λ b. b == 10) rest) parts.1 in
    let behind_it = lines-cut (c ∷ rest) behind parts.1 in
    ap (λ z. lines_with (b == 10) ((b == 13) && z) b (lines ((c ∷ rest) ++ 10 ∷ behind))) next.0
    ∙ ap (λ z. lines_with (b == 10) ((b == 13) && false) b z) behind_it
    ∙ before_line b (without_cr (c ∷ rest)) (lines behind) parts.0

-- a text without an LF is one line, if it isn't empty
lines-whole_from : (b : ℕ) (rest : List ℕ) → list_any (λ b. b == 10) (b ∷ rest) ≡ false → lines (b ∷ rest) ≡ (b ∷ rest) ∷ []
unfolding lines
lines-whole_from b [] h =
    let n = (or_parts (b == 10) false h).0 in
    elim (cases_Bool (b == 13)) [
      | inl cr ↦ rw (n, cr) refl
      | inr other ↦ rw (n, other) refl
    ]
lines-whole_from b (c ∷ rest) h =
    let parts = or_parts (b == 10) (list_any (λ b. b == 10) (c ∷ rest)) h in
    let next = or_parts (c == 10) (list_any (λ b. b == 10) rest) parts.1 in
    ap (λ z. lines_with (b == 10) ((b == 13) && z) b (lines (c ∷ rest))) next.0
    ∙ ap (λ z. lines_with (b == 10) ((b == 13) && false) b z) (lines-whole_from c rest parts.1)
    ∙ before_line b (c ∷ rest) [] parts.0

pub lines-whole : (text : List ℕ) → text ≢ [] → list_any (λ b. b == 10) text ≡ false → lines text ≡ text ∷ lines []
unfolding lines
lines-whole [] n h = absurd (n refl)
lines-whole (b ∷ rest) n h = lines-whole_from b rest h

-- a last byte CR is left away
without_cr-cr_at : (n : ℕ) (line : List ℕ) → length line ≡ suc n → get_or line n 0 ≡ 13 → take n line ≡ without_cr line
without_cr-cr_at n [] e h = cc
without_cr-cr_at zero (b ∷ []) e h = rw (eq-eqb b 13 h) refl
without_cr-cr_at zero (b ∷ c ∷ rest) e h = absurd (omega arith)
without_cr-cr_at (suc n) (b ∷ []) e h = absurd (omega arith)
without_cr-cr_at (suc n) (b ∷ c ∷ rest) e h = ap (λ z. b ∷ z) (without_cr-cr_at n (c ∷ rest) (omega arith) h)

without_cr-other_at : (n : ℕ) (line : List ℕ) → length line ≡ suc n → (get_or line n 0 ≡ 13 → ⊥) → line ≡ without_cr line
without_cr-other_at n [] e h = cc
without_cr-other_at zero (b ∷ []) e h = rw (ne_eqb b 13 h) refl
without_cr-other_at zero (b ∷ c ∷ rest) e h = absurd (omega arith)
without_cr-other_at (suc n) (b ∷ []) e h = absurd (omega arith)
without_cr-other_at (suc n) (b ∷ c ∷ rest) e h = ap (λ z. b ∷ z) (without_cr-other_at n (c ∷ rest) (omega arith) h)

pub without_cr-cr : (line : List ℕ) → 1 ≤ length line → get_or line (length line - 1) 0 ≡ 13 → take (length line - 1) line ≡ without_cr line
without_cr-cr line l h = without_cr-cr_at (length line - 1) line (omega arith) h

pub without_cr-other : (line : List ℕ) → 1 ≤ length line → (get_or line (length line - 1) 0 ≡ 13 → ⊥) → line ≡ without_cr line
without_cr-other line l h = without_cr-other_at (length line - 1) line (omega arith) h
