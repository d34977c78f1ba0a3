-- A text that is cut byte by byte.
use Rattle.std.proofs.Common.{◌≡◌, ◌+◌, ◌<◌, ◌≤◌, ◌==◌, ◌||◌, false, ℕ, List, [], ◌∷◌, ◌++◌, length, take, Option, refl, ap, sym, ◌∙◌, append_assoc, inl, inr, arith}
use Rattle.std.specs.Prelude.{nat_le, IfSome, IfNone, if◌then◌else◌}
use Rattle.std.specs.List.{list_any}
use Rattle.std.proofs.lemmas.Bool.{cases_Bool, or_from, eqb-true, le-leb, leb-true, leb-false}
use Rattle.std.proofs.lemmas.List.{append-nil}
use Rattle.std.proofs.lemmas.List.Folds.{list_any-append}
use Rattle.event_rules.specs.Lines.{lines, most_line}
use Rattle.line_text.specs.LineEnds.{without_cr}
use Rattle.line_text.specs.Cutting.{last_line, lines_from, part_held, answer_to, Tells}
use Rattle.line_text.specs.declared.cutter.Cut.{Cut}
use Rattle.line_text.specs.declared.cutter.Cut.TheVariants.{More, Line, TooLong}
use Rattle.line_text.proofs.LineParts.{lines-cut, lines-whole}

-- what stands before an LF is a front of its part, and all of it but for one byte at most
record IsFront (part line : List ℕ) : Type 0 where
  front : take (length line) part ≡ line
  within : length line ≤ length part
  long : length part ≤ length line + 1

without_cr-front : (part : List ℕ) → IsFront part (without_cr part)
without_cr-front [] = record { front = refl; within = omega arith; long = omega arith }
without_cr-front (b ∷ []) =
    elim (cases_Bool (b == 13)) [
      | inl cr ↦ rw cr (record { front = refl; within = omega arith; long = omega arith })
      | inr other ↦ rw other (record { front = refl; within = omega arith; long = omega arith })
    ]
without_cr-front (b ∷ c ∷ rest) =
    let h = without_cr-front (c ∷ rest) in
    record { front = ap (λ z. b ∷ z) h.front; within = let a = h.within in omega arith; long = let a = h.long in omega arith }

-- the answer to a part that is held tells the line that it becomes
tells_held : (part line : List ℕ) (count : ℕ) (answer : Cut) → count ≡ length (without_cr part)
    → answer ≡ (if nat_le count most_line then Line else TooLong)
    → (count ≤ length part → answer ≡ Line → line ≡ take count part)
    → Tells answer line (without_cr part ∷ [])
tells_held part line count answer c a l =
    let h = without_cr-front part in
    let within = h.within in
    elim (cases_Bool (nat_le count most_line)) [
      | inl short ↦
          let is : answer ≡ Line = a ∙ rw short refl in
          let same : line ≡ without_cr part = l (omega arith) is ∙ ap (λ n. take n part) c ∙ h.front in
          let same_length = ap length same in
          let fits = leb-true count most_line short in
          rw is (ap (λ z. z ∷ []) (sym same), omega arith)
      | inr long ↦
          let is : answer ≡ TooLong = a ∙ rw long refl in
          let more = leb-false count most_line long in
          rw is (without_cr part, refl, omega arith)
    ]

-- a part that isn't held becomes no line that is short enough
tells_longer : (part line : List ℕ) (count : ℕ) (answer : Cut) → most_line + 1 < length part → most_line < count
    → answer ≡ (if nat_le count most_line then Line else TooLong)
    → Tells answer line (without_cr part ∷ [])
tells_longer part line count answer p c a =
    let h = without_cr-front part in
    let long = h.long in
    elim (cases_Bool (nat_le count most_line)) [
      | inl short ↦ let fits = leb-true count most_line short in absurd (omega arith)
      | inr more ↦
          let is : answer ≡ TooLong = a ∙ rw more refl in
          rw is (without_cr part, refl, omega arith)
    ]

-- at an LF the answer tells the line before it
pub tells_line : (held : Option (List ℕ)) (part line : List ℕ) (count : ℕ) (answer : Cut) → held ≡ part_held part
    → IfSome held (λ p. count ≡ length (without_cr p)) → IfNone held (most_line < count)
    → answer ≡ (if nat_le count most_line then Line else TooLong)
    → IfSome held (λ p. count ≤ length p → answer ≡ Line → line ≡ take count p)
    → Tells answer line (without_cr part ∷ [])
tells_line held part line count answer at short long a l =
    elim (cases_Bool (nat_le (length part) (most_line + 1))) [
      | inl fits ↦ tells_held part line count answer (rw (at, fits) at short) a (rw (at, fits) at l)
      | inr longer ↦ tells_longer part line count answer (leb-false (length part) (most_line + 1) longer) (rw (at, longer) at long) a
    ]

-- what is told tells the answer
pub answer-told : (answer : Cut) (line : List ℕ) (ended : List (List ℕ)) → Tells answer line ended → answer ≡ answer_to ended
answer-told More line ended e = rw e refl
answer-told Line line ended t = rw (t.0, le-leb (length line) most_line t.1) refl
answer-told TooLong line ended t =
    elim (cases_Bool (nat_le (length t.0) most_line)) [
      | inl short ↦ let fits = leb-true (length t.0) most_line short in let long = t.2 in absurd (omega arith)
      | inr more ↦ rw (t.1, more) refl
    ]

lines-nil : lines [] ≡ []
unfolding lines
lines-nil = refl

-- the last line of a text without an LF
last_part : (part : List ℕ) → list_any (λ b. b == 10) part ≡ false → last_line part ≡ lines (part ++ [])
last_part [] h = sym lines-nil
last_part (b ∷ part) h =
    sym (ap lines (append-nil (b ∷ part)) ∙ lines-whole (b ∷ part) (λ e. cc) h ∙ ap (λ z. (b ∷ part) ∷ z) lines-nil)

-- the lines behind a part at hand without an LF
pub lines_from-part : (part rest : List ℕ) → list_any (λ b. b == 10) part ≡ false → lines_from part rest ≡ lines (part ++ rest)
unfolding lines_from
lines_from-part part [] h = last_part part h
lines_from-part part (b ∷ rest) h =
    elim (cases_Bool (b == 10)) [
      | inl lf ↦
          rw lf
          (ap (λ z. without_cr part ∷ z) (lines_from-part [] rest refl)
          ∙ sym (ap (λ z. lines (part ++ z ∷ rest)) (eqb-true b 10 lf) ∙ lines-cut part rest h))
      | inr other ↦
          let plain : list_any (λ z. z == 10) (part ++ b ∷ []) ≡ false =
          list_any-append (λ z. z == 10) part (b ∷ []) ∙ or_from (list_any (λ z. z == 10) part) ((b == 10) || false) h (or_from (b == 10) false other refl) in
          rw other (lines_from-part (part ++ b ∷ []) rest plain ∙ ap lines (append_assoc part (b ∷ []) rest))
    ]
