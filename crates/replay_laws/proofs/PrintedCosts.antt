-- The printed rows show the least cost.
use Rattle.std.proofs.Common.{◌≡◌, ℕ, zero, suc, ◌+◌, ◌^◌, ◌<◌, ◌≤◌, Bool, true, false, cond, List, [], ◌∷◌, ◌++◌, refl, sym, ap, ◌∙◌, length, arith, append_assoc, Some, None}
use Rattle.std.specs.Prelude.{◌==◌, ◌&&◌, ◌||◌, not, nat_le, codes, decimal, flat_map, if◌then◌else◌}
use Rattle.std.specs.List.{list_all, list_any, join_with_byte, range_with_len}
use Rattle.std.specs.Str.{bytes_eq}
use Rattle.std.proofs.lemmas.Bool.{and_parts, and_from, or_from, or_parts, not-true, not_from_false, ne_eqb, leb-true, eqb-true, cond_both}
use Rattle.std.proofs.lemmas.List.{append-nil}
use Rattle.std.proofs.lemmas.Option.{none-some, same_Some}
use Rattle.outage_rules.specs.Sum.{total}
use Rattle.outage_rules.specs.Network.{Cut}
use Rattle.outage_rules.specs.Laws.{OneLeastCost, NothingCostsNothing}
use Rattle.grid_model.specs.Parts.{Parts}
use Rattle.grid_model.specs.Places.{device_at, node_of}
use Rattle.grid_model.specs.Sound.{IsSoundParts}
use Rattle.grid_model.specs.declared.history.Event.{Event}
use Rattle.grid_model.specs.declared.history.Period.{Period}
use Rattle.grid_model.specs.declared.history.Refusal.TheVariants.{Backwards, NotClosed, Loop}
use Rattle.event_rules.specs.declared.read_rule.ReadRule.TheVariants.{TooLong, BadFields, BadWord, BadTime, BadName, UnknownMeter, UnknownDevice}
use Rattle.event_rules.specs.Decimals.{is_decimal, value_of}
use Rattle.event_rules.specs.Lines.{begins_with, in_front, lines_with, lines}
use Rattle.event_rules.specs.Rows.{row}
use Rattle.history_rules.specs.Posed.{problem_after, least_after, diagnosis_after, IsHistory}
use Rattle.history_rules.specs.Run.{LineRule, Unread, Unapplied, Outcome, Skips, Refuses, Applies, outcome_of, history_by, history_in, history_of}
use Rattle.history_rules.specs.Output.{rule_word, cost_row, change_rows, changes, refused_row, entry, entries, replay_text}
use Rattle.history_rules.specs.Report.{refused_in, report_text}
use Rattle.history_rules.specs.Laws.{RunIsHistory, HistoryIsDiagnosed}
use Rattle.history_rules.proofs.ReportRows.{RowSort, ReportRow, CountsRow, TotalRow, OutageRow, CrewRow, UnexplainedRow, LineRow, IndexRow, EndRow, first_word, is_row_word, AreRowWords, decimal_fits, device_fits, report_is}
use Rattle.bound_table.proofs.WordBytes.{is_word_byte, is_word, decimal_within-decimal}
use Rattle.bound_table.proofs.Commas.{are_words, words_none, between_commas-join}
use Rattle.run_rules.specs.Closing.{cost_shown_by, cost_shown_after, cost_shown, ShowsCost}

-- bytes from 45 on are neither ends of lines nor quotes nor commas
high_byte : (b : ℕ) → 45 ≤ b → is_word_byte b ≡ true
high_byte b l =
    and_from (not (b == 10)) (not (b == 13) && (not (b == 34) && not (b == 44))) (other 10 (λ e. omega arith))
    (and_from (not (b == 13)) (not (b == 34) && not (b == 44)) (other 13 (λ e. omega arith))
    (and_from (not (b == 34)) (not (b == 44)) (other 34 (λ e. omega arith)) (other 44 (λ e. omega arith))))
  where
    other : (x : ℕ) → (b ≡ x → ⊥) → not (b == x) ≡ true
    other x ne = not_from_false (b == x) (ne_eqb b x ne)

row_word : (word : List ℕ) → is_row_word word ≡ true → is_word word ≡ true
row_word [] e = refl
row_word (b ∷ word) e =
    let both = and_parts (nat_le 45 b) (is_row_word word) e in
    and_from (is_word_byte b) (is_word word) (high_byte b (leb-true 45 b both.0)) (row_word word both.1)

row_words : (words : List (List ℕ)) → list_all is_row_word words ≡ true → are_words words ≡ true
row_words [] e = refl
row_words (word ∷ words) e =
    let both = and_parts (is_row_word word) (list_all is_row_word words) e in
    and_from (is_word word) (are_words words) (row_word word both.0) (row_words words both.1)

-- a text without an LF and a CR is one line
abbrev is_end : ℕ → Bool
is_end b = (b == 10) || (b == 13)

no_end : (b : ℕ) → is_word_byte b ≡ true → is_end b ≡ false
no_end b h =
    let a = and_parts (not (b == 10)) (not (b == 13) && (not (b == 34) && not (b == 44))) h in
    let c = and_parts (not (b == 13)) (not (b == 34) && not (b == 44)) a.1 in
    or_from (b == 10) (b == 13) (not-true (b == 10) a.0) (not-true (b == 13) c.0)

one_line : (text behind : List ℕ) → list_any is_end text ≡ false → lines (text ++ 10 ∷ behind) ≡ text ∷ lines behind
unfolding lines
one_line [] behind e = refl
one_line (b ∷ text) behind e =
    let both = or_parts (is_end b) (list_any is_end text) e in
    let neither = or_parts (b == 10) (b == 13) both.0 in
    let rest = text ++ 10 ∷ behind in
    ap (λ x. lines_with x ((b == 13) && begins_with 10 rest) b (lines rest)) neither.0
    ∙ ap (λ x. lines_with false (x && begins_with 10 rest) b (lines rest)) neither.1
    ∙ ap (in_front b) (one_line text behind both.1)

-- what a printed row shows
row_shows : (before : ℕ) (word : List ℕ) (words : List (List ℕ)) (behind : List ℕ) → list_all is_row_word (word ∷ words) ≡ true →
    cost_shown_after before (lines (row (word ∷ words) ++ behind)) ≡ cost_shown_after (cost_shown_by (word ∷ words) before) (lines behind)
unfolding cost_shown_after
row_shows before word words behind e =
    let text = join_with_byte 44 (word ∷ words) in
    let fit = row_words (word ∷ words) e in
    ap (λ t. cost_shown_after before (lines t)) (append_assoc text (10 ∷ []) behind)
    ∙ ap (cost_shown_after before) (one_line text behind (words_none is_end no_end refl (word ∷ words) fit))
    ∙ ap (λ fields. cost_shown_after (cost_shown_by fields before) (lines behind)) (between_commas-join word words fit)

-- a row with another word shows no cost
shown_by_other : (before : ℕ) (word : List ℕ) (words : List (List ℕ)) → bytes_eq word (codes "cost") ≡ false → cost_shown_by (word ∷ words) before ≡ before
shown_by_other before word [] other = refl
shown_by_other before word (second ∷ []) other = refl
shown_by_other before word (second ∷ third ∷ []) other = ap (λ b. cond b (value_of third) before) other
shown_by_other before word (second ∷ third ∷ fourth ∷ words) other = refl

-- nor does a text of such rows, before any other
abbrev ShowsNoCost : List ℕ → Type 0
ShowsNoCost text = (before : ℕ) (behind : List ℕ) → cost_shown_after before (lines (text ++ behind)) ≡ cost_shown_after before (lines behind)

other_row : (word : List ℕ) (words : List (List ℕ)) → list_all is_row_word (word ∷ words) ≡ true → bytes_eq word (codes "cost") ≡ false → ShowsNoCost (row (word ∷ words))
other_row word words fit other before behind =
    row_shows before word words behind fit ∙ ap (λ c. cost_shown_after c (lines behind)) (shown_by_other before word words other)

no_text : ShowsNoCost []
no_text before behind = refl

two_texts : (a b : List ℕ) → ShowsNoCost a → ShowsNoCost b → ShowsNoCost (a ++ b)
two_texts a b x y before behind = ap (λ t. cost_shown_after before (lines t)) (append_assoc a b behind) ∙ x before (b ++ behind) ∙ y before behind

each_text : {X : Type 0} (f : X → List ℕ) (xs : List X) → ((x : X) → ShowsNoCost (f x)) → ShowsNoCost (flat_map f xs)
each_text f [] h = no_text
each_text f (x ∷ xs) h = two_texts (f x) (flat_map f xs) (h x) (each_text f xs h)

-- a row of a report is such a row
report_row : (sort : RowSort) (words : List (List ℕ)) → AreRowWords words → ShowsNoCost (row (first_word sort ∷ words))
report_row ReportRow words e = other_row (codes "report") words e.all refl
report_row CountsRow words e = other_row (codes "counts") words e.all refl
report_row TotalRow words e = other_row (codes "total") words e.all refl
report_row OutageRow words e = other_row (codes "outage") words e.all refl
report_row CrewRow words e = other_row (codes "crew") words e.all refl
report_row UnexplainedRow words e = other_row (codes "unexplained") words e.all refl
report_row LineRow words e = other_row (codes "line") words e.all refl
report_row IndexRow words e = other_row (codes "index") words e.all refl
report_row EndRow words e = other_row (codes "end") words e.all refl

-- two words fit a row where each does
two_fit : (a b : List ℕ) → is_row_word a ≡ true → is_row_word b ≡ true → list_all is_row_word (a ∷ b ∷ []) ≡ true
two_fit a b x y = and_from (is_row_word a) (is_row_word b && true) x (and_from (is_row_word b) true y refl)

rule_fits : (rule : LineRule) → is_row_word (rule_word rule) ≡ true
rule_fits (Unread TooLong) = refl
rule_fits (Unread BadFields) = refl
rule_fits (Unread BadWord) = refl
rule_fits (Unread BadTime) = refl
rule_fits (Unread BadName) = refl
rule_fits (Unread UnknownMeter) = refl
rule_fits (Unread UnknownDevice) = refl
rule_fits (Unapplied Backwards) = refl
rule_fits (Unapplied NotClosed) = refl
rule_fits (Unapplied Loop) = refl

refused_shows : (line : ℕ) (rule : LineRule) → ShowsNoCost (refused_row line rule)
refused_shows line rule = other_row (codes "refused") (decimal line ∷ rule_word rule ∷ []) (two_fit (decimal line) (rule_word rule) (decimal_fits line) (rule_fits rule)) refl

-- a number is read as it was printed
value_back : (n : ℕ) → n < 2 ^ 64 → value_of (decimal n) ≡ n
value_back n small =
    by (is_decimal (decimal n) && (nat_le 0 (value_of (decimal n)) && nat_le (value_of (decimal n)) n)) (value_of (decimal n)) (decimal_within-decimal n n small (omega arith))
  where
    by : (b : Bool) (v : ℕ) → (if b then Some v else None) ≡ Some n → v ≡ n
    by true v e = same_Some v n e
    by false v e = absurd (none-some n e)

-- a cost row shows the cost after it
cost_shows : (line before after : ℕ) (behind : List ℕ) → after < 2 ^ 64 →
    cost_shown_after before (lines (cost_row line before after ++ behind)) ≡ cost_shown_after after (lines behind)
cost_shows line before after behind small =
    let words = decimal line ∷ decimal after ∷ [] in
    cond_both (before == after) [] (row (codes "cost" ∷ words)) (λ text. cost_shown_after before (lines (text ++ behind)) ≡ cost_shown_after after (lines behind))
    (λ e. ap (λ c. cost_shown_after c (lines behind)) (eqb-true before after e))
    (λ e. row_shows before (codes "cost") words behind (two_fit (decimal line) (decimal after) (decimal_fits line) (decimal_fits after))
    ∙ ap (λ c. cost_shown_after c (lines behind)) (value_back after small))

at_end : (before : ℕ) → cost_shown_after before (lines []) ≡ before
unfolding cost_shown_after lines
at_end before = refl

-- nothing costs anything before the first event
none_weighs : (n : ℕ) (f : ℕ → ℕ) → ((k : ℕ) → f k ≡ 0) → total n f ≡ 0
none_weighs zero f none = refl
none_weighs (suc n) f none = let rest = none_weighs n f none in let here = none n in omega arith

same_either : (b : Bool) (n : ℕ) → n ≡ 0 → (if b then n else 0) ≡ 0
same_either true n e = e
same_either false n e = refl

module _ (g : Parts) where
  none_reported : (n : ℕ) → (problem_after g []).dark_weight n ≡ 0
  unfolding problem_after
  none_reported n = none_weighs (length g.meters) (λ m. if node_of g m == n then 0 else 0) (λ m. same_either (node_of g m == n) 0 refl)

  none_denied : (n : ℕ) → (problem_after g []).live_weight n ≡ 0
  unfolding problem_after
  none_denied n = none_weighs (length g.meters) (λ m. if node_of g m == n then 0 else 0) (λ m. same_either (node_of g m == n) 0 refl)

  none_marked : (d : ℕ) → (problem_after g []).marked_open d ≡ false
  unfolding problem_after
  none_marked d = refl

  none_fine : (d : ℕ) → (problem_after g []).marked_ok d ≡ false
  unfolding problem_after
  none_fine d = refl

-- the laws that it stands on
pub record CostLaws (g : Parts) : Type 0 where
  pub sound : IsSoundParts g
  pub run : RunIsHistory
  pub diagnosed : HistoryIsDiagnosed
  pub nothing : NothingCostsNothing
  pub one : OneLeastCost
  pub small : (h : List Event) → IsHistory g h → least_after g h < 2 ^ 64

module _ (g : Parts) (laws : CostLaws g) where
  free_at_first : least_after g [] ≡ 0
  free_at_first =
      let p = problem_after g [] in
      laws.one p (least_after g []) 0 (laws.diagnosed g [] laws.sound tt).least
      (laws.nothing p (record { unmarked = none_marked g; not_fine = none_fine g; no_live = none_denied g }) (none_reported g))

  change_shows : (word : List ℕ) (line : ℕ) (has hasnt : Cut) → is_row_word word ≡ true → bytes_eq word (codes "cost") ≡ false → ShowsNoCost (change_rows g word line has hasnt)
  unfolding change_rows
  change_shows word line has hasnt fits other =
      each_text (λ d. cond (has d && not (hasnt d)) (row (word ∷ decimal line ∷ (device_at g d).name ∷ [])) []) (range_with_len 0 (length g.devices))
      (λ d. cond_both (has d && not (hasnt d)) (row (word ∷ decimal line ∷ (device_at g d).name ∷ [])) [] ShowsNoCost
      (λ e. other_row word (decimal line ∷ (device_at g d).name ∷ [])
      (and_from (is_row_word word) (list_all is_row_word (decimal line ∷ (device_at g d).name ∷ [])) fits (two_fit (decimal line) (device_at g d).name (decimal_fits line) (device_fits g laws.sound.names d))) other)
      (λ e. no_text))

  changes_show : (line : ℕ) (h later : List Event) (behind : List ℕ) → least_after g later < 2 ^ 64 →
      cost_shown_after (least_after g h) (lines (changes g line h later ++ behind)) ≡ cost_shown_after (least_after g later) (lines behind)
  changes_show line h later behind small =
      let leaving = change_rows g (codes "leaves") line (diagnosis_after g h) (diagnosis_after g later) in
      let entering = change_rows g (codes "enters") line (diagnosis_after g later) (diagnosis_after g h) in
      let cost = cost_row line (least_after g h) (least_after g later) in
      ap (λ t. cost_shown_after (least_after g h) (lines t)) (append_assoc (leaving ++ entering) cost behind)
      ∙ two_texts leaving entering (change_shows (codes "leaves") line (diagnosis_after g h) (diagnosis_after g later) refl refl)
      (change_shows (codes "enters") line (diagnosis_after g later) (diagnosis_after g h) refl refl) (least_after g h) (cost ++ behind)
      ∙ cost_shows line (least_after g h) (least_after g later) behind small

  entry_shows : (line : ℕ) (h : List Event) (o : Outcome) (behind : List ℕ) → least_after g (history_by h o) < 2 ^ 64 →
      cost_shown_after (least_after g h) (lines (entry g line h o ++ behind)) ≡ cost_shown_after (least_after g (history_by h o)) (lines behind)
  entry_shows line h Skips behind small = refl
  entry_shows line h (Refuses rule) behind small = refused_shows line rule (least_after g h) behind
  entry_shows line h (Applies e) behind small = changes_show line h (e ∷ h) behind small

  one_more : (h : List Event) (line : List ℕ) → IsHistory g h → IsHistory g (history_by h (outcome_of g h line))
  unfolding history_in
  one_more h line history = laws.run g h (line ∷ []) history

  entries_show : (events : List (List ℕ)) (number : ℕ) (h : List Event) (behind : List ℕ) → IsHistory g h →
      cost_shown_after (least_after g h) (lines (entries g number h events ++ behind)) ≡ cost_shown_after (least_after g (history_in g h events)) (lines behind)
  unfolding entries history_in
  entries_show [] number h behind history = refl
  entries_show (line ∷ rest) number h behind history =
      let o = outcome_of g h line in
      let next = one_more h line history in
      ap (λ t. cost_shown_after (least_after g h) (lines t)) (append_assoc (entry g number h o) (entries g (number + 1) (history_by h o) rest) behind)
      ∙ entry_shows number h o (entries g (number + 1) (history_by h o) rest ++ behind) (laws.small (history_by h o) next)
      ∙ entries_show rest (number + 1) (history_by h o) behind next

  from_nothing : (events : List (List ℕ)) (behind : List ℕ) →
      cost_shown (entries g 1 [] events ++ behind) ≡ cost_shown_after (least_after g (history_in g [] events)) (lines behind)
  from_nothing events behind = ap (λ c. cost_shown_after c (lines (entries g 1 [] events ++ behind))) (sym free_at_first) ∙ entries_show events 1 [] behind tt

  entries_printed : (events : List (List ℕ)) → cost_shown (entries g 1 [] events) ≡ least_after g (history_in g [] events)
  entries_printed events =
      ap cost_shown (sym (append-nil (entries g 1 [] events))) ∙ from_nothing events [] ∙ at_end (least_after g (history_in g [] events))

  report_shows : (period : Period) (refused : ℕ) (h : List Event) → ShowsNoCost (report_text g period refused h)
  report_shows = report_is g laws.sound.names ShowsNoCost no_text two_texts report_row

  replay_printed : (period : Period) (events : List ℕ) → cost_shown (replay_text g period events) ≡ least_after g (history_of g events)
  unfolding replay_text
  replay_printed period events =
      let report = report_text g period (refused_in g [] (lines events)) (history_of g events) in
      let after = least_after g (history_of g events) in
      from_nothing (lines events) report
      ∙ ap (λ t. cost_shown_after after (lines t)) (sym (append-nil report))
      ∙ report_shows period (refused_in g [] (lines events)) (history_of g events) after []
      ∙ at_end after

  pub cost_is_printed : ShowsCost g
  cost_is_printed = record { entries = entries_printed; replay = replay_printed }
