-- The lines that count are those refused and those whose event joined the others.
use Rattle.std.proofs.Common.{◌≡◌, ℕ, ◌+◌, Bool, true, false, List, [], ◌∷◌, arith, length}
use Rattle.std.specs.Prelude.{not, Option, Some, None, Result, Ok, Err, if◌then◌else◌}
use Rattle.grid_model.specs.Parts.{Parts}
use Rattle.grid_model.specs.declared.history.Event.{Event}
use Rattle.grid_model.specs.declared.history.Refusal.{Refusal}
use Rattle.event_rules.specs.declared.read_rule.ReadRule.{ReadRule}
use Rattle.event_rules.specs.Lines.{is_skipped}
use Rattle.event_rules.specs.EventLines.{IsSkipped, event_in, reading_of, event_reading}
use Rattle.history_rules.specs.Posed.{refusal_of}
use Rattle.history_rules.specs.Run.{Outcome, outcome_by, outcome_after, outcome_of, history_by, history_in, counted}
use Rattle.history_rules.specs.Report.{refused_by, refused_in, RefusedAreTheRest}

-- what one line adds: one where it counts, to the refused lines or to the events
abbrev Adds : List Event → ℕ → ℕ → Outcome → Type 0
Adds h before after o = before + length h ≡ refused_by o + (after + length (history_by h o))

joins : (h : List Event) (e : Event) (rule : Option Refusal) (after : ℕ) → Adds h (1 + after) after (outcome_by e rule)
joins h e None after = omega arith
joins h e (Some rule) after = omega arith

module _ (g : Parts) where
  adds_by : (h : List Event) (line : List ℕ) (rest : List (List ℕ)) (skipped : Bool) (r : Result Event ReadRule) →
      Adds h (length (if not skipped then line ∷ rest else rest)) (length rest) (outcome_after g h (if skipped then IsSkipped else reading_of r))
  adds_by h line rest true r = omega arith
  adds_by h line rest false (Err rule) = omega arith
  adds_by h line rest false (Ok e) = let both = joins h e (refusal_of g h e) (length rest) in omega arith

  adds : (h : List Event) (line : List ℕ) (rest : List (List ℕ)) → Adds h (length (counted (line ∷ rest))) (length (counted rest)) (outcome_of g h line)
  unfolding outcome_of event_reading
  adds h line rest = adds_by h line (counted rest) (is_skipped line) (event_in g line)

  rest_of : (lines : List (List ℕ)) (h : List Event) → length (counted lines) + length h ≡ refused_in g h lines + length (history_in g h lines)
  unfolding refused_in history_in
  rest_of [] h = omega arith
  rest_of (line ∷ rest) h = let here = adds h line rest in let more = rest_of rest (history_by h (outcome_of g h line)) in omega arith

pub refused_are_the_rest : RefusedAreTheRest
refused_are_the_rest g h lines = rest_of g lines h
