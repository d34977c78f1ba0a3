-- What a replay prints before its bounds is lines that may stand there.
use Rattle.std.proofs.Common.{◌≡◌, ℕ, ◌+◌, true, false, cond, refl, List, [], ◌∷◌, ◌++◌, length}
use Rattle.std.specs.Prelude.{◌==◌, ◌&&◌, not, codes, decimal}
use Rattle.std.specs.List.{join_with_byte, range_with_len}
use Rattle.std.proofs.lemmas.Bool.{cond_both}
use Rattle.outage_rules.specs.Network.{Cut}
use Rattle.grid_model.specs.Parts.{Parts}
use Rattle.grid_model.specs.Places.{device_at}
use Rattle.grid_model.specs.Sound.{HasNames}
use Rattle.grid_model.specs.declared.history.Event.{Event}
use Rattle.grid_model.specs.declared.history.Period.{Period}
use Rattle.grid_model.specs.declared.history.Refusal.{Refusal}
use Rattle.grid_model.specs.declared.history.Refusal.TheVariants.{Backwards, NotClosed, Loop}
use Rattle.event_rules.specs.declared.read_rule.ReadRule.{ReadRule}
use Rattle.event_rules.specs.declared.read_rule.ReadRule.TheVariants.{TooLong, BadFields, BadWord, BadTime, BadName, UnknownMeter, UnknownDevice}
use Rattle.event_rules.specs.Lines.{lines}
use Rattle.event_rules.specs.Rows.{row}
use Rattle.history_rules.specs.Posed.{least_after, diagnosis_after}
use Rattle.history_rules.specs.Run.{LineRule, Unread, Unapplied, Outcome, Skips, Refuses, Applies, outcome_of, history_by, history_of}
use Rattle.history_rules.specs.Output.{read_rule_word, refusal_word, rule_word, cost_row, change_rows, changes, entry, entries, replay_text}
use Rattle.history_rules.specs.Report.{report_text, refused_in}
use Rattle.bound_table.specs.Report.{begins_bounds}
use Rattle.bound_table.proofs.WordBytes.{is_word}
use Rattle.replay_laws.proofs.RowLines.{IsBefore, none, both, each, one_row, decimal_word, three_words, device_is_word}
use Rattle.replay_laws.proofs.ReportLines.{report_lines}

read_rule_is_word : (rule : ReadRule) → is_word (read_rule_word rule) ≡ true
read_rule_is_word TooLong = refl
read_rule_is_word BadFields = refl
read_rule_is_word BadWord = refl
read_rule_is_word BadTime = refl
read_rule_is_word BadName = refl
read_rule_is_word UnknownMeter = refl
read_rule_is_word UnknownDevice = refl

refusal_is_word : (rule : Refusal) → is_word (refusal_word rule) ≡ true
refusal_is_word Backwards = refl
refusal_is_word NotClosed = refl
refusal_is_word Loop = refl

rule_is_word : (rule : LineRule) → is_word (rule_word rule) ≡ true
rule_is_word (Unread rule) = read_rule_is_word rule
rule_is_word (Unapplied rule) = refusal_is_word rule

cost_lines : (line before after : ℕ) → IsBefore (cost_row line before after)
cost_lines line before after =
    cond_both (before == after) [] (row (codes "cost" ∷ decimal line ∷ decimal after ∷ [])) IsBefore (λ e. none)
    (λ e. one_row (codes "cost" ∷ decimal line ∷ decimal after ∷ []) (three_words (codes "cost") (decimal line) (decimal after) refl (decimal_word line) (decimal_word after)) refl)

module _ (g : Parts) (names : HasNames g) where
  change_lines : (word : List ℕ) (line : ℕ) (has hasnt : Cut) → is_word word ≡ true → ((rest : List ℕ) → begins_bounds (word ++ rest) ≡ false) → IsBefore (change_rows g word line has hasnt)
  unfolding change_rows
  change_lines word line has hasnt h other =
      each (λ d. cond (has d && not (hasnt d)) (row (word ∷ decimal line ∷ (device_at g d).name ∷ [])) []) (range_with_len 0 (length g.devices))
      (λ d. let words = word ∷ decimal line ∷ (device_at g d).name ∷ [] in
      cond_both (has d && not (hasnt d)) (row words) [] IsBefore
      (λ e. one_row words (three_words word (decimal line) (device_at g d).name h (decimal_word line) (device_is_word g names d)) (other (44 ∷ join_with_byte 44 (decimal line ∷ (device_at g d).name ∷ []))))
      (λ e. none))

  changed_lines : (line : ℕ) (before after : List Event) → IsBefore (changes g line before after)
  changed_lines line before after =
      let leave = change_rows g (codes "leaves") line (diagnosis_after g before) (diagnosis_after g after) in
      let enter = change_rows g (codes "enters") line (diagnosis_after g after) (diagnosis_after g before) in
      both (leave ++ enter) (cost_row line (least_after g before) (least_after g after))
      (both leave enter
      (change_lines (codes "leaves") line (diagnosis_after g before) (diagnosis_after g after) refl (λ rest. refl))
      (change_lines (codes "enters") line (diagnosis_after g after) (diagnosis_after g before) refl (λ rest. refl)))
      (cost_lines line (least_after g before) (least_after g after))

  entry_lines : (line : ℕ) (h : List Event) (outcome : Outcome) → IsBefore (entry g line h outcome)
  entry_lines line h Skips = none
  entry_lines line h (Refuses rule) =
      one_row (codes "refused" ∷ decimal line ∷ rule_word rule ∷ []) (three_words (codes "refused") (decimal line) (rule_word rule) refl (decimal_word line) (rule_is_word rule)) refl
  entry_lines line h (Applies e) = changed_lines line h (e ∷ h)

  entries_lines : (number : ℕ) (h : List Event) (text : List (List ℕ)) → IsBefore (entries g number h text)
  unfolding entries
  entries_lines number h [] = none
  entries_lines number h (line ∷ rest) =
      let outcome = outcome_of g h line in
      both (entry g number h outcome) (entries g (number + 1) (history_by h outcome) rest) (entry_lines number h outcome) (entries_lines (number + 1) (history_by h outcome) rest)

  -- all that a replay prints without its bounds
  pub replay_lines : (period : Period) (events : List ℕ) → IsBefore (replay_text g period events)
  unfolding replay_text
  replay_lines period events =
      let refused = refused_in g [] (lines events) in
      both (entries g 1 [] (lines events)) (report_text g period refused (history_of g events)) (entries_lines 1 [] (lines events)) (report_lines g names period refused (history_of g events))
