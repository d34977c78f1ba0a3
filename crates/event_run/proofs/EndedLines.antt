-- The lines that end in a text, and those of its first bytes.
use Rattle.std.proofs.Common.{◌≡◌, ℕ, zero, suc, ◌+◌, ◌-◌, ◌<◌, ◌≤◌, Bool, true, false, cond, refl, sym, ap, ◌∙◌, arith, List, [], ◌∷◌, ◌++◌, length, take, append_assoc, append-nil}
use Rattle.std.specs.Prelude.{◌==◌, ◌||◌, not, nat_le}
use Rattle.std.specs.List.{list_any}
use Rattle.std.proofs.lemmas.Bool.{le-leb, lt-leb}
use Rattle.std.proofs.lemmas.List.{length-append}
use Rattle.std.proofs.Math.Seq.{take-append-add}
use Rattle.std.proofs.lemmas.List.Elements.{filter-append}
use Rattle.event_rules.specs.Lines.{lines, is_skipped}
use Rattle.line_text.specs.Cutting.{line_ended, part_with, last_line, ended_from, part_from}
use Rattle.line_text.specs.LineEnds.{without_cr}
use Rattle.line_text.specs.Laws.{LinesFromParts}
use Rattle.history_rules.specs.Run.{up_to_last_end, ended_lines, counted, before_counted, lines_within}
use Rattle.run_rules.specs.Files.{most_events, most_event_lines}
use Rattle.event_run.proofs.PieceLines.{ended_append, lines_are}

abbrev has_end : List ℕ → Bool
has_end text = list_any (λ b. b == 10) text

-- without an LF no line ends
no_end_first : (b : Bool) (c : Bool) → (b || c) ≡ false → (b ≡ false) × (c ≡ false)
no_end_first true c e = cc
no_end_first false c e = (refl, e)

no_lines : (part text : List ℕ) → has_end text ≡ false → ended_from part text ≡ []
unfolding ended_from
no_lines part [] e = refl
no_lines part (b ∷ text) e =
    let both = no_end_first (b == 10) (has_end text) e in
    ap (λ x. cond x (without_cr part ∷ []) [] ++ ended_from (cond x [] (part ++ b ∷ [])) text) both.0
    ∙ no_lines (part ++ b ∷ []) text both.1

no_front : (text : List ℕ) → has_end text ≡ false → up_to_last_end text ≡ []
unfolding up_to_last_end
no_front [] e = refl
no_front (b ∷ text) e = ap (λ x. cond x (b ∷ up_to_last_end text) []) e

front_step : (b : ℕ) (text : List ℕ) → has_end (b ∷ text) ≡ true → up_to_last_end (b ∷ text) ≡ b ∷ up_to_last_end text
unfolding up_to_last_end
front_step b text e = ap (λ x. cond x (b ∷ up_to_last_end text) []) e

-- the lines that end are those of the text up to its last LF
front_ended : (part text : List ℕ) (ends : Bool) → has_end text ≡ ends → ended_from part (up_to_last_end text) ≡ ended_from part text
unfolding ended_from
front_ended part text false e = ap (ended_from part) (no_front text e) ∙ sym (no_lines part text e)
front_ended part [] true e = cc
front_ended part (b ∷ text) true e =
    ap (ended_from part) (front_step b text e)
    ∙ ap (λ z. line_ended part b ++ z) (front_ended (part_with part b) text (has_end text) refl)

-- nothing stands behind the last LF there
after_end : (part : List ℕ) (b : ℕ) (text : List ℕ) → b == 10 ≡ true → has_end text ≡ false → part_from part (b ∷ up_to_last_end text) ≡ []
unfolding part_from
after_end part b text is e =
    ap (λ z. part_from (part_with part b) z) (no_front text e) ∙ ap (λ x. cond x [] (part ++ b ∷ [])) is

left_true : (b : Bool) → (b || false) ≡ true → b ≡ true
left_true true e = refl
left_true false e = e

front_parted : (part text : List ℕ) → has_end text ≡ true → part_from part (up_to_last_end text) ≡ []
unfolding part_from
front_parted part [] e = cc
front_parted part (b ∷ text) e = ap (part_from part) (front_step b text e) ∙ by_rest (has_end text) refl (λ more. front_parted (part_with part b) text more)
  where
    by_rest : (ends : Bool) → has_end text ≡ ends → (has_end text ≡ true → part_from (part_with part b) (up_to_last_end text) ≡ []) → part_from part (b ∷ up_to_last_end text) ≡ []
    by_rest true more later = later more
    by_rest false none later = after_end part b text (left_true (b == 10) (ap (λ x. (b == 10) || x) (sym none) ∙ e)) none

front_left : (text : List ℕ) (ends : Bool) → has_end text ≡ ends → last_line (part_from [] (up_to_last_end text)) ≡ []
unfolding part_from
front_left text true e = ap last_line (front_parted [] text e)
front_left text false e = ap (λ z. last_line (part_from [] z)) (no_front text e)

pub ended_are : LinesFromParts → (bytes : List ℕ) → ended_lines bytes ≡ ended_from [] bytes
ended_are law bytes =
    lines_are law (up_to_last_end bytes)
    ∙ ap (λ z. ended_from [] (up_to_last_end bytes) ++ z) (front_left bytes (has_end bytes) refl)
    ∙ append-nil (ended_from [] (up_to_last_end bytes))
    ∙ front_ended [] bytes (has_end bytes) refl

-- all lines, where the text is short enough
pub within_all : (bytes : List ℕ) → length bytes ≤ most_events → lines_within most_events bytes ≡ lines bytes
within_all bytes l = ap (λ b. cond b (lines bytes) (ended_lines (take most_events bytes))) (le-leb (length bytes) most_events l)

-- and those that end within the first bytes, where it isn't
pub within_first : (bytes : List ℕ) → most_events < length bytes → lines_within most_events bytes ≡ ended_lines (take most_events bytes)
within_first bytes l = ap (λ b. cond b (lines bytes) (ended_lines (take most_events bytes))) (lt-leb (length bytes) most_events l)

-- the lines that end in a front part of the first bytes are the first of them
pub within_front : LinesFromParts → (front rest : List ℕ) → length front ≤ most_events → (more : List (List ℕ)) × (lines_within most_events (front ++ rest) ≡ ended_from [] front ++ more)
within_front law front rest l = by_size (nat_le (length (front ++ rest)) most_events) refl
  where
    by_size : (fits : Bool) → nat_le (length (front ++ rest)) most_events ≡ fits → (more : List (List ℕ)) × (lines_within most_events (front ++ rest) ≡ ended_from [] front ++ more)
    by_size true e = (
      ended_from (part_from [] front) rest ++ last_line (part_from [] (front ++ rest)),
      ap (λ b. cond b (lines (front ++ rest)) (ended_lines (take most_events (front ++ rest)))) e
          ∙ lines_are law (front ++ rest)
          ∙ ap (λ z. z ++ last_line (part_from [] (front ++ rest))) (ended_append [] front rest)
          ∙ append_assoc (ended_from [] front) (ended_from (part_from [] front) rest) (last_line (part_from [] (front ++ rest))),
    )
    by_size false e = (
      ended_from (part_from [] front) (take (most_events - length front) rest),
      ap (λ b. cond b (lines (front ++ rest)) (ended_lines (take most_events (front ++ rest)))) e
          ∙ ended_are law (take most_events (front ++ rest))
          ∙ ap (λ n. ended_from [] (take n (front ++ rest))) (let sum : most_events ≡ length front + (most_events - length front) = omega arith in sum)
          ∙ ap (ended_from []) (take-append-add front rest (most_events - length front))
          ∙ ended_append [] front (take (most_events - length front) rest),
    )

-- lines of which no more count than may stand before the one too many
abbrev Kept : ℕ → List (List ℕ) → List (List ℕ) → Type 0
Kept most first more = (rest : List (List ℕ)) × (before_counted most (first ++ more) ≡ first ++ rest)

kept_zero : (line : List ℕ) (first more : List (List ℕ)) (skipped : Bool) → is_skipped line ≡ skipped → length (counted (line ∷ first)) ≤ 0 → (length (counted first) ≤ 0 → Kept zero first more) → Kept zero (line ∷ first) more
unfolding before_counted
kept_zero line first more true e l later =
    let same = ap (λ b. length (cond (not b) (line ∷ counted first) (counted first))) e in
    let here = later (omega arith) in
    (here.0, ap (λ b. cond b (line ∷ before_counted zero (first ++ more)) []) e ∙ ap (λ z. line ∷ z) here.1)
kept_zero line first more false e l later = let same = ap (λ b. length (cond (not b) (line ∷ counted first) (counted first))) e in absurd (omega arith)

kept_suc : (most : ℕ) (line : List ℕ) (first more : List (List ℕ)) (skipped : Bool) → is_skipped line ≡ skipped → length (counted (line ∷ first)) ≤ suc most
    → (length (counted first) ≤ suc most → Kept (suc most) first more) → (length (counted first) ≤ most → Kept most first more) → Kept (suc most) (line ∷ first) more
unfolding before_counted
kept_suc most line first more true e l later sooner =
    let same = ap (λ b. length (cond (not b) (line ∷ counted first) (counted first))) e in
    let here = later (omega arith) in
    (here.0, ap (λ b. line ∷ before_counted (cond b (suc most) most) (first ++ more)) e ∙ ap (λ z. line ∷ z) here.1)
kept_suc most line first more false e l later sooner =
    let same = ap (λ b. length (cond (not b) (line ∷ counted first) (counted first))) e in
    let here = sooner (omega arith) in
    (here.0, ap (λ b. line ∷ before_counted (cond b (suc most) most) (first ++ more)) e ∙ ap (λ z. line ∷ z) here.1)

front_kept : (most : ℕ) (first more : List (List ℕ)) → length (counted first) ≤ most → Kept most first more
front_kept most [] more l = (before_counted most more, refl)
front_kept zero (line ∷ first) more l = kept_zero line first more (is_skipped line) refl l (λ few. front_kept zero first more few)
front_kept (suc most) (line ∷ first) more l = kept_suc most line first more (is_skipped line) refl l (λ few. front_kept (suc most) first more few) (λ few. front_kept most first more few)

-- of the lines that are taken, those are the first
pub taken_front : (bytes : List ℕ) (first more : List (List ℕ)) → length (counted first) ≤ most_event_lines → lines_within most_events bytes ≡ first ++ more
    → (rest : List (List ℕ)) × (before_counted most_event_lines (lines_within most_events bytes) ≡ first ++ rest)
taken_front bytes first more few are =
    let kept = front_kept most_event_lines first more few in
    (kept.0, ap (before_counted most_event_lines) are ∙ kept.1)

-- a line that counts, behind as many as may
pub one_more : (first rest : List (List ℕ)) (line : List ℕ) → length (counted first) ≡ most_event_lines → is_skipped line ≡ false → most_event_lines < length (counted (first ++ line ∷ rest))
one_more first rest line full counts =
    let parts = ap length (filter-append (λ l. not (is_skipped l)) first (line ∷ rest)) in
    let size = length-append (counted first) (counted (line ∷ rest)) in
    let here = ap (λ b. length (cond (not b) (line ∷ counted rest) (counted rest))) counts in
    omega arith
