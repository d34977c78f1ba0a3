-- Lines in parts: up to the last end, before and after others, and before a limit.
use Rattle.std.proofs.Common.{◌≡◌, ℕ, zero, suc, ◌+◌, ◌≤◌, Bool, true, false, cond, List, [], ◌∷◌, ◌++◌, refl, sym, ap, ◌∙◌, length, arith}
use Rattle.std.specs.Prelude.{◌==◌, not, if◌then◌else◌}
use Rattle.std.specs.List.{list_any}
use Rattle.std.proofs.lemmas.Bool.{or_right}
use Rattle.std.proofs.lemmas.List.{append_assoc}
use Rattle.std.proofs.lemmas.List.Elements.{filter-append}
use Rattle.grid_model.specs.Parts.{Parts}
use Rattle.grid_model.specs.declared.history.Event.{Event}
use Rattle.event_rules.specs.Lines.{is_skipped}
use Rattle.history_rules.specs.Run.{outcome_of, history_by, history_in, up_to_last_end, counted, before_counted}
use Rattle.history_rules.specs.Output.{entry, entries}
use Rattle.history_rules.specs.Laws.{LinesOfParts, RunOfParts, LinesOfLimit}

abbrev has_end : List ℕ → Bool
has_end text = list_any (λ b. b == 10) text

ends : (text rest : List ℕ) → has_end (text ++ 10 ∷ rest) ≡ true
ends [] rest = refl
ends (b ∷ text) rest = or_right (b == 10) (has_end (text ++ 10 ∷ rest)) (ends text rest)

none_ends : (text : List ℕ) → has_end text ≡ false → up_to_last_end text ≡ []
unfolding up_to_last_end
none_ends [] none = refl
none_ends (b ∷ rest) none = ap (λ a. if a then b ∷ up_to_last_end rest else []) none

last_ends : (text rest : List ℕ) → has_end rest ≡ false → up_to_last_end (text ++ 10 ∷ rest) ≡ text ++ 10 ∷ []
unfolding up_to_last_end
last_ends [] rest none = ap (λ t. 10 ∷ t) (none_ends rest none)
last_ends (b ∷ text) rest none =
    ap (λ a. if a then b ∷ up_to_last_end (text ++ 10 ∷ rest) else []) (ends (b ∷ text) rest) ∙ ap (λ t. b ∷ t) (last_ends text rest none)

pub lines_of_parts : LinesOfParts
lines_of_parts = record { ended = last_ends; unended = none_ends }

history_parts : (g : Parts) (first rest : List (List ℕ)) (h : List Event) → history_in g h (first ++ rest) ≡ history_in g (history_in g h first) rest
unfolding history_in
history_parts g [] rest h = refl
history_parts g (line ∷ first) rest h = history_parts g first rest (history_by h (outcome_of g h line))

entries_parts : (g : Parts) (first rest : List (List ℕ)) (number : ℕ) (h : List Event) →
    entries g number h (first ++ rest) ≡ entries g number h first ++ entries g (number + length first) (history_in g h first) rest
unfolding entries history_in
entries_parts g [] rest number h = ap (λ k. entries g k h rest) (omega arith)
entries_parts g (line ∷ first) rest number h =
    let after = history_by h (outcome_of g h line) in
    let here = entry g number h (outcome_of g h line) in
    ap (λ text. here ++ text) (entries_parts g first rest (number + 1) after)
    ∙ ap (λ k. here ++ (entries g (number + 1) after first ++ entries g k (history_in g after first) rest)) (omega arith)
    ∙ sym (append_assoc here (entries g (number + 1) after first) (entries g (number + length (line ∷ first)) (history_in g after first) rest))

pub run_of_parts : RunOfParts
run_of_parts = record {
  history = λ g h first rest. history_parts g first rest h;
  entries = λ g number h first rest. entries_parts g first rest number h;
  counted = λ first rest. filter-append (λ line. not (is_skipped line)) first rest;
}

-- a step of the count, by whether the line is skipped
none_counted : (skipped : Bool) (line : List ℕ) (rest kept : List (List ℕ)) → length (cond (not skipped) (line ∷ kept) kept) ≤ 0 → (skipped ≡ true) × (length kept ≤ 0)
none_counted true line rest kept few = (refl, few)
none_counted false line rest kept few = absurd (omega arith)

fewer_counted : (skipped : Bool) (most : ℕ) (line : List ℕ) (kept : List (List ℕ)) → length (cond (not skipped) (line ∷ kept) kept) ≤ suc most → length kept ≤ (if skipped then suc most else most)
fewer_counted true most line kept few = few
fewer_counted false most line kept few = omega arith

all_before : (lines : List (List ℕ)) (most : ℕ) → length (counted lines) ≤ most → before_counted most lines ≡ lines
unfolding before_counted
all_before [] most few = refl
all_before (line ∷ rest) zero few =
    let step = none_counted (is_skipped line) line rest (counted rest) few in
    ap (λ s. if s then line ∷ before_counted 0 rest else []) step.0 ∙ ap (λ behind. line ∷ behind) (all_before rest 0 step.1)
all_before (line ∷ rest) (suc most) few =
    ap (λ behind. line ∷ behind) (all_before rest (if is_skipped line then suc most else most) (fewer_counted (is_skipped line) most line (counted rest) few))

one_counted : (skipped : Bool) (most : ℕ) (line : List ℕ) (kept : List (List ℕ)) → length (cond (not skipped) (line ∷ kept) kept) ≡ suc most → length kept ≡ (if skipped then suc most else most)
one_counted true most line kept same = same
one_counted false most line kept same = omega arith

some_before : (first rest : List (List ℕ)) (line : List ℕ) (most : ℕ) → length (counted first) ≡ most → is_skipped line ≡ false → before_counted most (first ++ line ∷ rest) ≡ first
unfolding before_counted
some_before [] rest line zero same counts = ap (λ s. if s then line ∷ before_counted 0 rest else []) counts
some_before [] rest line (suc most) same counts = absurd (omega arith)
some_before (other ∷ first) rest line zero same counts =
    let step = none_counted (is_skipped other) other first (counted first) (omega arith) in
    let few : length (counted first) ≤ 0 = step.1 in
    ap (λ s. if s then other ∷ before_counted 0 (first ++ line ∷ rest) else []) step.0 ∙ ap (λ behind. other ∷ behind) (some_before first rest line 0 (omega arith) counts)
some_before (other ∷ first) rest line (suc most) same counts =
    ap (λ behind. other ∷ behind) (some_before first rest line (if is_skipped other then suc most else most) (one_counted (is_skipped other) most other (counted first) same) counts)

pub lines_of_limit : LinesOfLimit
lines_of_limit = record {
  all = λ most lines few. all_before lines most few;
  some = λ most first rest line same counts. some_before first rest line most same counts;
}
