-- One more line that was taken.
use Rattle.std.proofs.Common.{◌≡◌, ℕ, ◌+◌, ◌<◌, ◌≤◌, Bool, true, false, cond, refl, sym, ap, ◌∙◌, subst, arith, List, [], ◌∷◌, ◌++◌, length, append_assoc, append-nil, Option, Some, None, Result, Ok, Err}
use Rattle.std.specs.Prelude.{OnOk, not, nat_le, ◌==◌, ◌&&◌}
use Rattle.std.specs.Result.{IsErrAnd}
use Rattle.std.proofs.lemmas.Bool.{lt-ltb, lt-leb, false_from_ne_true}
use Rattle.std.proofs.Math.Bool.{and-false}
use Rattle.std.proofs.lemmas.List.{length-append}
use Rattle.grid_model.specs.Parts.{Parts}
use Rattle.grid_model.specs.declared.history.Event.{Event}
use Rattle.grid_model.specs.declared.history.Refusal.{Refusal}
use Rattle.event_rules.specs.Lines.{is_skipped, most_line}
use Rattle.event_rules.specs.declared.read_rule.ReadRule.{ReadRule}
use Rattle.event_rules.specs.declared.read_rule.ReadRule.TheVariants.{TooLong, BadFields}
use Rattle.event_rules.specs.Fields.{between_commas, has_no_fields}
use Rattle.event_rules.specs.EventLines.{EventReading, IsSkipped, IsEvent, IsRefused, event_in, event_of_fields, reading_of, event_reading}
use Rattle.history_rules.specs.Laws.{RunOfParts}
use Rattle.event_reader.specs.Reading.{IsReading}
use Rattle.event_reader.specs.Refusals.{refusal_by}
use Rattle.event_reader.specs.declared.refusal.ReadRefusal.{ReadRefusal}
use Rattle.history_rules.specs.Posed.{joined_by, refusal_of}
use Rattle.history_rules.specs.Run.{Outcome, Skips, Refuses, Applies, Unread, outcome_by, outcome_after, outcome_of, history_by, history_in, counted}
use Rattle.history_rules.specs.Output.{entry, entries, refused_row}
use Rattle.outage_engine.specs.Engined.{Engined, IsEngineAfter}
use Rattle.run_rules.specs.Files.{most_event_lines}
use Rattle.event_run.specs.declared.taken.LineStop.{LineStop}
use Rattle.event_run.specs.declared.taken.LineStop.TheVariants as cut
use Rattle.event_run.specs.declared.taken.Taken.{Taken}
use Rattle.event_run.specs.Entering.{StaysEngine, IsFull, Counts, TakesLine, IsEventTaken}
use Rattle.event_run.specs.Pieces.{HasTaken, HasTakenSome, TakesNext}

-- what becomes of a line, by its reading
outcome_is : (g : Parts) (h : List Event) (line : List ℕ) (reading : EventReading) → event_reading g line ≡ reading → outcome_of g h line ≡ outcome_after g h reading
unfolding outcome_of
outcome_is g h line reading e = ap (outcome_after g h) e

skipped_reading : (g : Parts) (line : List ℕ) → is_skipped line ≡ true → event_reading g line ≡ IsSkipped
unfolding event_reading
skipped_reading g line e = ap (λ b. cond b IsSkipped (reading_of (event_in g line))) e

skipped_outcome : (g : Parts) (h : List Event) (line : List ℕ) → is_skipped line ≡ true → outcome_of g h line ≡ Skips
skipped_outcome g h line e = outcome_is g h line IsSkipped (skipped_reading g line e)

-- a line that is too long counts, and is refused
long_skipped : (line : List ℕ) (fits : Bool) → nat_le (length line) most_line ≡ fits → fits ≡ false → is_skipped line ≡ false
long_skipped [] true e f = cc
long_skipped [] false e f = cc
long_skipped (b ∷ line) fits e f = ap (λ x. (b == 35) && x) (e ∙ f) ∙ and-false (b == 35)

pub too_long_counts : (line : List ℕ) → most_line < length line → is_skipped line ≡ false
too_long_counts line more = long_skipped line (nat_le (length line) most_line) refl (lt-leb (length line) most_line more)

pub too_long_reading : (g : Parts) (line : List ℕ) → most_line < length line → event_reading g line ≡ IsRefused TooLong
unfolding event_reading
too_long_reading g line more =
    ap (λ b. cond b IsSkipped (reading_of (event_in g line))) (too_long_counts line more)
    ∙ ap (λ b. reading_of (cond b (Err TooLong) (cond (has_no_fields line) (Err BadFields) (event_of_fields g (between_commas line))))) (lt-ltb most_line (length line) more)

-- an event joins those before it where no rule refuses it
joined_is : (h : List Event) (e : Event) (rule : Option Refusal) → history_by h (outcome_by e rule) ≡ joined_by h e rule
joined_is h e None = refl
joined_is h e (Some rule) = refl

-- a line counts or doesn't
count_of : Bool → ℕ
count_of true = 0
count_of false = 1

kept_count : (skipped : Bool) (line : List ℕ) (rest : List (List ℕ)) → length (cond (not skipped) (line ∷ rest) rest) ≡ count_of skipped + length rest
unfolding count_of
kept_count true line rest = omega arith
kept_count false line rest = omega arith

counted_skipped : (line : List ℕ) → is_skipped line ≡ true → counted (line ∷ []) ≡ []
counted_skipped line e = ap (λ b. cond (not b) (line ∷ []) []) e

counted_one : (line : List ℕ) → is_skipped line ≡ false → counted (line ∷ []) ≡ line ∷ []
counted_one line e = ap (λ b. cond (not b) (line ∷ []) []) e

-- a line adds one event at most, and a skipped one none
event_more : (h : List Event) (o : Outcome) → length (history_by h o) ≤ length h + 1
event_more h Skips = omega arith
event_more h (Refuses rule) = omega arith
event_more h (Applies e) = omega arith

event_counts : (g : Parts) (h : List Event) (line : List ℕ) (skipped : Bool) → is_skipped line ≡ skipped → length (history_by h (outcome_of g h line)) ≤ length h + count_of skipped
unfolding count_of
event_counts g h line true e = let same = ap (λ o. length (history_by h o)) (skipped_outcome g h line e) in omega arith
event_counts g h line false e = event_more h (outcome_of g h line)

-- no more events than lines that count
events_few : (g : Parts) (h : List Event) (lines : List (List ℕ)) → length (history_in g h lines) ≤ length h + length (counted lines)
unfolding history_in
events_few g h [] = omega arith
events_few g h (line ∷ rest) =
    let later = events_few g (history_by h (outcome_of g h line)) rest in
    let here = event_counts g h line (is_skipped line) refl in
    let count = kept_count (is_skipped line) line (counted rest) in
    omega arith

-- the events and the entry of one line
one_history : (g : Parts) (h : List Event) (line : List ℕ) → history_in g h (line ∷ []) ≡ history_by h (outcome_of g h line)
unfolding history_in
one_history g h line = refl

one_entry : (g : Parts) (number : ℕ) (h : List Event) (line : List ℕ) → entries g number h (line ∷ []) ≡ entry g number h (outcome_of g h line)
unfolding entries
one_entry g number h line = append-nil (entry g number h (outcome_of g h line))

-- no more events were applied than lines count
pub taken_few : (lines : List (List ℕ)) (written : List ℕ) (taken : Taken) (e : Engined) → HasTaken lines written taken e → e.field.applied ≤ most_event_lines
taken_few lines written taken e has =
    let few = has.few in
    let count = has.engine.field.count in
    omega (arith, events_few e.grid [] lines)

pub applied_few : (taken : Taken) (e : Engined) → HasTakenSome taken e → e.field.applied < 2000001
applied_few taken e some = let few = taken_few some.0 some.1 taken e some.2 in omega arith

-- one more line was taken
taken_more : RunOfParts → (lines : List (List ℕ)) (line written : List ℕ) (old new : Taken) (e later : Engined) (o : Outcome) → HasTaken lines written old e
    → later.grid ≡ e.grid → outcome_of e.grid (history_in e.grid [] lines) line ≡ o
    → new.number ≡ old.number + 1 → new.counted ≡ old.counted + length (counted (line ∷ [])) → new.counted ≤ 2000000
    → new.entries.bytes.items ≡ old.entries.bytes.items ++ entry e.grid (old.number + 1) (history_in e.grid [] lines) o
    → IsEngineAfter (history_by (history_in e.grid [] lines) o) later
    → HasTaken (lines ++ line ∷ []) written new later
taken_more law lines line written old new e later o has grid is number counts few text after = record {
  numbers = let numbers = has.numbers in let size = length-append lines (line ∷ []) in omega arith;
  counts = count_is;
  few = omega (arith, count_is);
  engine = subst (λ h. IsEngineAfter h later) (sym history_is) after;
  printed =
      ap (λ xs. written ++ xs) text
      ∙ sym (append_assoc written old.entries.bytes.items (entry e.grid (old.number + 1) before o))
      ∙ ap (λ xs. xs ++ entry e.grid (old.number + 1) before o) has.printed
      ∙ ap (λ n. entries e.grid 1 [] lines ++ entry e.grid n before o) (let numbers = has.numbers in let same : old.number + 1 ≡ 1 + length lines = omega arith in same)
      ∙ ap (λ x. entries e.grid 1 [] lines ++ entry e.grid (1 + length lines) before x) (sym is)
      ∙ ap (λ xs. entries e.grid 1 [] lines ++ xs) (sym (one_entry e.grid (1 + length lines) before line))
      ∙ sym (law.entries e.grid 1 [] lines (line ∷ []))
      ∙ ap (λ g. entries g 1 [] (lines ++ line ∷ [])) (sym grid);
}
  where
    before : List Event
    before = history_in e.grid [] lines

    count_is : new.counted ≡ length (counted (lines ++ line ∷ []))
    count_is =
        let parts = ap length (law.counted lines (line ∷ [])) in
        let size = length-append (counted lines) (counted (line ∷ [])) in
        let old_count = has.counts in omega arith

    history_is : history_in later.grid [] (lines ++ line ∷ []) ≡ history_by (history_in e.grid [] lines) o
    history_is =
        ap (λ g. history_in g [] (lines ++ line ∷ [])) grid
        ∙ law.history e.grid [] lines (line ∷ [])
        ∙ one_history e.grid (history_in e.grid [] lines) line
        ∙ ap (history_by (history_in e.grid [] lines)) is

-- an engine that took these lines is one
pub stays_engine : (taken : Taken) (e : Engined) → HasTakenSome taken e → StaysEngine e e
stays_engine taken e some = record { grid = refl; engine = (history_in e.grid [] some.0, some.2.engine) }

-- why a line wasn't counted is passed on
pub count_passed : (old new : Taken) (takes : Type 0) (stop : LineStop) (answer : Result (Unit {0}) LineStop) → IsErrAnd answer (λ s. s ≡ stop) → Counts old new (Err stop) → TakesLine old new takes answer
count_passed old new takes stop (Ok tt) passed counts = absurd passed
count_passed old new takes cut.TooMany (Err cut.TooMany) passed full = full
count_passed old new takes cut.Memory (Err cut.TooMany) passed none = absurd none
count_passed old new takes stop (Err cut.Memory) passed counts = tt

-- and so is want of memory
pub memory_passed : (old new : Taken) (takes : Type 0) (answer : Result (Unit {0}) LineStop) → IsErrAnd answer (λ s. s ≡ cut.Memory) → TakesLine old new takes answer
memory_passed old new takes (Ok tt) passed = absurd passed
memory_passed old new takes (Err cut.TooMany) passed = (let none : cut.TooMany ≡ cut.Memory = passed in cc)
memory_passed old new takes (Err cut.Memory) passed = tt

-- a line counts, where it isn't read as one that is skipped
read_counts : (g : Parts) (line : List ℕ) (read : Result (Option Event) ReadRefusal) → IsReading g line read → (read ≡ Ok None → ⊥) → is_skipped line ≡ false
read_counts g line read reading some = false_from_ne_true (is_skipped line) (λ t. some (reading.skipped.1 t))

-- what comes of one more line, by what is read of it
module _ (law : RunOfParts) (lines : List (List ℕ)) (line written : List ℕ) (old new : Taken) (e : Engined) (read : Result (Option Event) ReadRefusal) (reading : IsReading e.grid line read) (has : HasTaken lines written old e) where
  pub skipped_next : read ≡ Ok None → new.number ≡ old.number + 1 → new.counted ≡ old.counted → new.entries.bytes.items ≡ old.entries.bytes.items → HasTaken (lines ++ line ∷ []) written new e
  skipped_next none number count entries =
      let skipped = reading.skipped.0 none in
      let few = has.few in
      let counts = has.counts in
      let one = ap length (counted_skipped line skipped) in
      taken_more law lines line written old new e e Skips has refl (skipped_outcome e.grid (history_in e.grid [] lines) line skipped) number (omega arith) (omega arith)
      (entries ∙ sym (append-nil old.entries.bytes.items)) has.engine

  -- the line is one too many
  full_next : (read ≡ Ok None → ⊥) → IsFull old new → TakesNext lines line written old new e (Err cut.TooMany)
  full_next some full = (record { full = full.full; counts = read_counts e.grid line read reading some }, full.same)

  pub event_next : (more : Engined) (event : Event) (answer : Result (Unit {0}) LineStop) → read ≡ Ok (Some event) → more.grid ≡ e.grid → TakesLine old new (IsEventTaken e more event old new) answer
      → TakesNext lines line written old new more answer
  event_next more event (Ok tt) is grid takes =
      let before = history_in e.grid [] lines in
      let one = ap length (counted_one line (read_counts e.grid line read reading (λ none. cc))) in
      let count = takes.0.counted in
      taken_more law lines line written old new e more (outcome_by event (refusal_of e.grid before event)) has grid (outcome_is e.grid before line (IsEvent event) (reading.event event is)) takes.0.number (omega arith)
      takes.0.few (takes.1.printed before has.engine)
      (subst (λ h. IsEngineAfter h more) (sym (joined_is before event (refusal_of e.grid before event))) (takes.1.after before has.engine))
  event_next more event (Err cut.TooMany) is grid full = full_next (λ none. cc) full
  event_next more event (Err cut.Memory) is grid takes = tt

  pub refused_next : (rule : ReadRule) (answer : Result (Unit {0}) LineStop) → read ≡ Err (refusal_by rule) → TakesLine old new (new.entries.bytes.items ≡ old.entries.bytes.items ++ refused_row (old.number + 1) (Unread rule)) answer
      → TakesNext lines line written old new e answer
  refused_next rule (Ok tt) is takes =
      let before = history_in e.grid [] lines in
      let one = ap length (counted_one line (read_counts e.grid line read reading (λ none. cc))) in
      let count = takes.0.counted in
      taken_more law lines line written old new e e (Refuses (Unread rule)) has refl (outcome_is e.grid before line (IsRefused rule) (reading.refused rule is)) takes.0.number (omega arith) takes.0.few takes.1 has.engine
  refused_next rule (Err cut.TooMany) is full = full_next (λ none. cc) full
  refused_next rule (Err cut.Memory) is takes = tt

-- a fact stands, whatever came of the line
pub in_any : {E : Type 0} (answer : Result (Unit {0}) E) (P : Type 0) → P → OnOk answer P
in_any (Ok x) P here = here
in_any (Err stop) P here = tt
