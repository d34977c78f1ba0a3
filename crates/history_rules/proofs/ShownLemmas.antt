-- The printed rows show the diagnosis.
use Rattle.std.proofs.Common.{◌≡◌, ◌≢◌, ℕ, zero, suc, ◌+◌, ◌<◌, ◌≤◌, Bool, true, false, List, [], ◌∷◌, ◌++◌, refl, sym, ap, ◌∙◌, subst, length, arith, ⊎_elim, append_assoc}
use Rattle.std.specs.Prelude.{◌==◌, ◌&&◌, not, nat_le, codes, decimal, flat_map, if◌then◌else◌}
use Rattle.std.specs.List.{list_all, join_with_byte, range_with_len}
use Rattle.std.specs.Str.{bytes_eq}
use Rattle.std.proofs.lemmas.Bool.{cases_eq, false≢true, and_parts, and_from, not-true, not_from_false, ne_eqb, cases_lt, false_from_ne_true}
use Rattle.std.proofs.lemmas.List.{append-nil, get_or-map, length-map}
use Rattle.std.proofs.lemmas.List.Folds.{list_all-append}
use Rattle.std.proofs.lemmas.Slice.Eq.{bytes_eq-Decides}
use Rattle.outage_rules.specs.Sum.{total}
use Rattle.outage_rules.specs.Network.{Cut, nothing, is_live}
use Rattle.outage_rules.specs.Diagnosis.{IsFeasible, cost}
use Rattle.grid_model.specs.Parts.{Parts}
use Rattle.grid_model.specs.Name.{is_name_byte, is_name}
use Rattle.grid_model.specs.Names.{name_eq}
use Rattle.grid_model.specs.Places.{no_device, device_at, node_of}
use Rattle.grid_model.specs.Sound.{IsSoundParts}
use Rattle.grid_model.specs.declared.history.Event.{Event}
use Rattle.grid_model.specs.declared.history.Period.{Period}
use Rattle.grid_model.specs.declared.history.Refusal.TheVariants.{Backwards, NotClosed, Loop}
use Rattle.event_rules.specs.declared.read_rule.ReadRule.TheVariants.{TooLong, BadFields, BadWord, BadTime, BadName, UnknownMeter, UnknownDevice}
use Rattle.event_rules.specs.Lines.{begins_with, in_front, lines_with, lines}
use Rattle.event_rules.specs.Fields.{parts_from, between_commas}
use Rattle.event_rules.specs.Rows.{row}
use Rattle.history_rules.specs.Posed.{problem_after, least_after, diagnosis_after}
use Rattle.history_rules.specs.Run.{LineRule, Unread, Unapplied, Outcome, Skips, Refuses, Applies, outcome_of, history_by, history_in, history_of}
use Rattle.history_rules.specs.Output.{rule_word, cost_row, change_rows, changes, refused_row, entry, entries, replay_text}
use Rattle.history_rules.specs.Report.{refused_in, report_text}
use Rattle.history_rules.specs.Shown.{shown_by, shown_after, is_shown, DiagnosisIsPrinted}
use Rattle.history_rules.proofs.SoundLemmas.{history_is_diagnosed}
use Rattle.history_rules.proofs.ReportRows.{RowSort, ReportRow, CountsRow, TotalRow, OutageRow, CrewRow, UnexplainedRow, LineRow, IndexRow, EndRow, first_word, is_row_word, AreRowWords, decimal_fits, report_is}

-- neither an LF nor a CR, nor a comma
abbrev is_inner : ℕ → Bool
is_inner b = not (b == 10) && not (b == 13)

abbrev is_plain : ℕ → Bool
is_plain b = is_inner b && not (b == 44)

abbrev are_plain : List ℕ → Bool
are_plain word = list_all is_plain word

all_from : (p q : ℕ → Bool) → ((b : ℕ) → p b ≡ true → q b ≡ true) → (text : List ℕ) → list_all p text ≡ true → list_all q text ≡ true
all_from p q weaker [] e = refl
all_from p q weaker (b ∷ text) e =
    let both = and_parts (p b) (list_all p text) e in and_from (q b) (list_all q text) (weaker b both.0) (all_from p q weaker text both.1)

differs : (p : ℕ → Bool) (x b : ℕ) → p x ≡ false → p b ≡ true → not (b == x) ≡ true
differs p x b never e = not_from_false (b == x) (ne_eqb b x (λ s. false≢true (sym never ∙ (sym (ap p s) ∙ e))))

plain_from : (p : ℕ → Bool) → p 10 ≡ false → p 13 ≡ false → p 44 ≡ false → (b : ℕ) → p b ≡ true → is_plain b ≡ true
plain_from p lf cr comma b e =
    and_from (is_inner b) (not (b == 44)) (and_from (not (b == 10)) (not (b == 13)) (differs p 10 b lf e) (differs p 13 b cr e)) (differs p 44 b comma e)

plain_name : (name : List ℕ) → is_name name ≡ true → are_plain name ≡ true
plain_name name e =
    let a = and_parts (nat_le 1 (length name) && nat_le (length name) 32 && list_all is_name_byte name) (not (bytes_eq name (45 ∷ []))) e in
    let b = and_parts (nat_le 1 (length name) && nat_le (length name) 32) (list_all is_name_byte name) a.0 in
    all_from is_name_byte is_plain (plain_from is_name_byte refl refl refl) name b.1

-- so are the words of a report
plain_word : (word : List ℕ) → is_row_word word ≡ true → are_plain word ≡ true
plain_word word e = all_from (nat_le 45) is_plain (plain_from (nat_le 45) refl refl refl) word e

plain_words : (words : List (List ℕ)) → list_all is_row_word words ≡ true → list_all are_plain words ≡ true
plain_words [] e = refl
plain_words (word ∷ words) e =
    let both = and_parts (is_row_word word) (list_all is_row_word words) e in and_from (are_plain word) (list_all are_plain words) (plain_word word both.0) (plain_words words both.1)

plain_decimal : (n : ℕ) → are_plain (decimal n) ≡ true
plain_decimal n = plain_word (decimal n) (decimal_fits n)

-- words with commas between them are one line
inner_join : (word : List ℕ) (words : List (List ℕ)) → list_all are_plain (word ∷ words) ≡ true → list_all is_inner (join_with_byte 44 (word ∷ words)) ≡ true
inner_join word [] e =
    all_from is_plain is_inner (λ b p. (and_parts (is_inner b) (not (b == 44)) p).0) word (and_parts (are_plain word) true e).0
inner_join word (next ∷ words) e =
    let both = and_parts (are_plain word) (list_all are_plain (next ∷ words)) e in
    list_all-append is_inner word (44 ∷ join_with_byte 44 (next ∷ words))
    ∙ and_from (list_all is_inner word) (list_all is_inner (44 ∷ join_with_byte 44 (next ∷ words)))
    (all_from is_plain is_inner (λ b p. (and_parts (is_inner b) (not (b == 44)) p).0) word both.0) (inner_join next words both.1)

one_line : (text behind : List ℕ) → list_all is_inner text ≡ true → lines (text ++ 10 ∷ behind) ≡ text ∷ lines behind
unfolding lines
one_line [] behind e = refl
one_line (b ∷ text) behind e =
    let both = and_parts (is_inner b) (list_all is_inner text) e in
    let neither = and_parts (not (b == 10)) (not (b == 13)) both.0 in
    let rest = text ++ 10 ∷ behind in
    ap (λ x. lines_with x ((b == 13) && begins_with 10 rest) b (lines rest)) (not-true (b == 10) neither.0)
    ∙ ap (λ x. lines_with false (x && begins_with 10 rest) b (lines rest)) (not-true (b == 13) neither.1)
    ∙ ap (in_front b) (one_line text behind both.1)

-- and its fields are the words
first_part : (word part behind : List ℕ) → are_plain word ≡ true → parts_from part (word ++ 44 ∷ behind) ≡ (part ++ word) ∷ parts_from [] behind
unfolding parts_from
first_part [] part behind e = ap (λ p. p ∷ parts_from [] behind) (sym (append-nil part))
first_part (b ∷ word) part behind e =
    let both = and_parts (is_plain b) (are_plain word) e in
    ap (λ x. if x then part ∷ parts_from [] (word ++ 44 ∷ behind) else parts_from (part ++ b ∷ []) (word ++ 44 ∷ behind)) (not-true (b == 44) (and_parts (is_inner b) (not (b == 44)) both.0).1)
    ∙ first_part word (part ++ b ∷ []) behind both.1 ∙ ap (λ p. p ∷ parts_from [] behind) (append_assoc part (b ∷ []) word)

last_part : (word part : List ℕ) → are_plain word ≡ true → parts_from part word ≡ (part ++ word) ∷ []
unfolding parts_from
last_part [] part e = ap (λ p. p ∷ []) (sym (append-nil part))
last_part (b ∷ word) part e =
    let both = and_parts (is_plain b) (are_plain word) e in
    ap (λ x. if x then part ∷ parts_from [] word else parts_from (part ++ b ∷ []) word) (not-true (b == 44) (and_parts (is_inner b) (not (b == 44)) both.0).1)
    ∙ last_part word (part ++ b ∷ []) both.1 ∙ ap (λ p. p ∷ []) (append_assoc part (b ∷ []) word)

words_back : (word : List ℕ) (words : List (List ℕ)) → list_all are_plain (word ∷ words) ≡ true → between_commas (join_with_byte 44 (word ∷ words)) ≡ word ∷ words
words_back word [] e = last_part word [] (and_parts (are_plain word) true e).0
words_back word (next ∷ words) e =
    let both = and_parts (are_plain word) (list_all are_plain (next ∷ words)) e in
    first_part word [] (join_with_byte 44 (next ∷ words)) both.0 ∙ ap (λ w. word ∷ w) (words_back next words both.1)

-- what a printed row shows
row_shows : (name : List ℕ) (before : Bool) (word : List ℕ) (words : List (List ℕ)) (behind : List ℕ) → list_all are_plain (word ∷ words) ≡ true →
    shown_after name before (lines (row (word ∷ words) ++ behind)) ≡ shown_after name (shown_by name (word ∷ words) before) (lines behind)
unfolding shown_after
row_shows name before word words behind e =
    let text = join_with_byte 44 (word ∷ words) in
    ap (λ t. shown_after name before (lines t)) (append_assoc text (10 ∷ []) behind)
    ∙ ap (shown_after name before) (one_line text behind (inner_join word words e))
    ∙ ap (λ fields. shown_after name (shown_by name fields before) (lines behind)) (words_back word words e)

three_plain : (a b c : List ℕ) → are_plain a ≡ true → are_plain b ≡ true → are_plain c ≡ true → list_all are_plain (a ∷ b ∷ c ∷ []) ≡ true
three_plain a b c x y z = and_from (are_plain a) (are_plain b && (are_plain c && true)) x (and_from (are_plain b) (are_plain c && true) y (and_from (are_plain c) true z refl))

-- a row with another word shows nothing
shown_by_other : (name : List ℕ) (before : Bool) (word : List ℕ) (words : List (List ℕ)) → bytes_eq word (codes "enters") ≡ false → bytes_eq word (codes "leaves") ≡ false →
    shown_by name (word ∷ words) before ≡ before
shown_by_other name before word [] enters leaves = refl
shown_by_other name before word (second ∷ []) enters leaves = refl
shown_by_other name before word (second ∷ third ∷ []) enters leaves = as_before (name_eq name third) (bytes_eq word (codes "enters")) (bytes_eq word (codes "leaves")) enters leaves
  where
    as_before : (named a b : Bool) → a ≡ false → b ≡ false → (if named then (if a then true else (if b then false else before)) else before) ≡ before
    as_before false a b x y = refl
    as_before true true b x y = absurd (false≢true (sym x))
    as_before true false true x y = absurd (false≢true (sym y))
    as_before true false false x y = refl
shown_by_other name before word (second ∷ third ∷ fourth ∷ words) enters leaves = refl

-- nor does a text of such rows, before any other
abbrev ShowsNothing : List ℕ → List ℕ → Type 0
ShowsNothing name text = (before : Bool) (behind : List ℕ) → shown_after name before (lines (text ++ behind)) ≡ shown_after name before (lines behind)

other_row : (name word : List ℕ) (words : List (List ℕ)) → list_all are_plain (word ∷ words) ≡ true → bytes_eq word (codes "enters") ≡ false → bytes_eq word (codes "leaves") ≡ false →
    ShowsNothing name (row (word ∷ words))
other_row name word words plain enters leaves before behind =
    row_shows name before word words behind plain ∙ ap (λ b. shown_after name b (lines behind)) (shown_by_other name before word words enters leaves)

two_texts : (name a b : List ℕ) → ShowsNothing name a → ShowsNothing name b → ShowsNothing name (a ++ b)
two_texts name a b x y before behind = ap (λ t. shown_after name before (lines t)) (append_assoc a b behind) ∙ x before (b ++ behind) ∙ y before behind

-- a row of a report is such a row
report_row : (name : List ℕ) (sort : RowSort) (words : List (List ℕ)) → AreRowWords words → ShowsNothing name (row (first_word sort ∷ words))
report_row name ReportRow words e = other_row name (codes "report") words (plain_words words e.all) refl refl
report_row name CountsRow words e = other_row name (codes "counts") words (plain_words words e.all) refl refl
report_row name TotalRow words e = other_row name (codes "total") words (plain_words words e.all) refl refl
report_row name OutageRow words e = other_row name (codes "outage") words (plain_words words e.all) refl refl
report_row name CrewRow words e = other_row name (codes "crew") words (plain_words words e.all) refl refl
report_row name UnexplainedRow words e = other_row name (codes "unexplained") words (plain_words words e.all) refl refl
report_row name LineRow words e = other_row name (codes "line") words (plain_words words e.all) refl refl
report_row name IndexRow words e = other_row name (codes "index") words (plain_words words e.all) refl refl
report_row name EndRow words e = other_row name (codes "end") words (plain_words words e.all) refl refl

-- what a change row shows, by its word
abbrev Marks : List ℕ → Bool → Type 0
Marks word mark = (name line device : List ℕ) (before : Bool) → shown_by name (word ∷ line ∷ device ∷ []) before ≡ (if name_eq name device then mark else before)

same_name : (name : List ℕ) → name_eq name name ≡ true
same_name name = (bytes_eq-Decides name name).1 refl

abbrev name_of : Parts → ℕ → List ℕ
name_of g d = (device_at g d).name

abbrev is_gone : Cut → Cut → ℕ → Bool
is_gone has hasnt d = has d && not (hasnt d)

abbrev change_row : Parts → List ℕ → ℕ → Cut → Cut → ℕ → List ℕ
change_row g word line has hasnt d = if is_gone has hasnt d then row (word ∷ decimal line ∷ name_of g d ∷ []) else []

abbrev marked : Bool → Bool → Bool → Bool
marked gone mark before = if gone then mark else before

module _ (g : Parts) (sound : IsSoundParts g) where
  plain_device : (d : ℕ) → d < length g.devices → are_plain (name_of g d) ≡ true
  plain_device d l = plain_name (name_of g d) (sound.names.devices d no_device l)

  earlier_apart : (i j : ℕ) → i < j → j < length g.devices → name_eq (name_of g i) (name_of g j) ≡ false
  earlier_apart i j l within =
      let count = length-map g.devices (λ x. x.name) in
      let pair = sound.device_names i j no_device.name l (omega (arith, count)) in
      let less : i < length g.devices = omega arith in
      rw (get_or-map (λ x. x.name) g.devices i no_device no_device.name less, get_or-map (λ x. x.name) g.devices j no_device no_device.name within) at pair

  swapped : (a b : List ℕ) → name_eq b a ≡ false → name_eq a b ≡ false
  swapped a b e = false_from_ne_true (name_eq a b) (λ s. false≢true (sym e ∙ (bytes_eq-Decides b a).1 (sym ((bytes_eq-Decides a b).0 s))))

  names_apart : (i j : ℕ) → i < length g.devices → j < length g.devices → i ≢ j → name_eq (name_of g i) (name_of g j) ≡ false
  names_apart i j l m apart =
      ⊎_elim (λ less. earlier_apart i j less m)
      (λ most. swapped (name_of g i) (name_of g j) (earlier_apart j i (let a : i ≢ j = apart in let b : j ≤ i = most in omega arith) l)) (cases_lt i j)

  -- a change row shows its device, and no other one
  module _ (d : ℕ) (within : d < length g.devices) (word : List ℕ) (mark : Bool) (plain : are_plain word ≡ true) (marks : Marks word mark) (line : ℕ) (has hasnt : Cut) where
    row_marks : (k : ℕ) (gone before : Bool) (behind : List ℕ) → k < length g.devices →
        shown_after (name_of g d) before (lines ((if gone then row (word ∷ decimal line ∷ name_of g k ∷ []) else []) ++ behind))
        ≡ shown_after (name_of g d) (marked gone (marked (name_eq (name_of g d) (name_of g k)) mark before) before) (lines behind)
    row_marks k true before behind l =
        row_shows (name_of g d) before word (decimal line ∷ name_of g k ∷ []) behind (three_plain word (decimal line) (name_of g k) plain (plain_decimal line) (plain_device k l))
        ∙ ap (λ b. shown_after (name_of g d) b (lines behind)) (marks (name_of g d) (decimal line) (name_of g k) before)
    row_marks k false before behind l = refl

    own_row : (before : Bool) (behind : List ℕ) →
        shown_after (name_of g d) before (lines (change_row g word line has hasnt d ++ behind)) ≡ shown_after (name_of g d) (marked (is_gone has hasnt d) mark before) (lines behind)
    own_row before behind =
        row_marks d (is_gone has hasnt d) before behind within
        ∙ ap (λ same. shown_after (name_of g d) (marked (is_gone has hasnt d) (marked same mark before) before) (lines behind)) (same_name (name_of g d))

    unmarked : (gone before : Bool) → marked gone before before ≡ before
    unmarked true before = refl
    unmarked false before = refl

    far_row : (k : ℕ) (before : Bool) (behind : List ℕ) → k < length g.devices → d ≢ k →
        shown_after (name_of g d) before (lines (change_row g word line has hasnt k ++ behind)) ≡ shown_after (name_of g d) before (lines behind)
    far_row k before behind l apart =
        row_marks k (is_gone has hasnt k) before behind l
        ∙ ap (λ same. shown_after (name_of g d) (marked (is_gone has hasnt k) (marked same mark before) before) (lines behind)) (names_apart d k within l apart)
        ∙ ap (λ b. shown_after (name_of g d) b (lines behind)) (unmarked (is_gone has hasnt k) before)

    split_rows : (k m : ℕ) (before : Bool) (behind : List ℕ) →
        shown_after (name_of g d) before (lines (flat_map (change_row g word line has hasnt) (range_with_len k (suc m)) ++ behind))
        ≡ shown_after (name_of g d) before (lines (change_row g word line has hasnt k ++ (flat_map (change_row g word line has hasnt) (range_with_len (k + 1) m) ++ behind)))
    split_rows k m before behind =
        ap (λ t. shown_after (name_of g d) before (lines t)) (append_assoc (change_row g word line has hasnt k) (flat_map (change_row g word line has hasnt) (range_with_len (k + 1) m)) behind)

    rows_past : (m k : ℕ) (before : Bool) (behind : List ℕ) → d < k → k + m ≤ length g.devices →
        shown_after (name_of g d) before (lines (flat_map (change_row g word line has hasnt) (range_with_len k m) ++ behind)) ≡ shown_after (name_of g d) before (lines behind)
    rows_past zero k before behind l few = refl
    rows_past (suc m) k before behind l few =
        split_rows k m before behind
        ∙ far_row k before (flat_map (change_row g word line has hasnt) (range_with_len (k + 1) m) ++ behind) (omega arith) (λ s. let e : d ≡ k = s in omega arith)
        ∙ rows_past m (k + 1) before behind (omega arith) (omega arith)

    rows_within : (m k : ℕ) (before : Bool) (behind : List ℕ) → k ≤ d → d < k + m → k + m ≤ length g.devices →
        shown_after (name_of g d) before (lines (flat_map (change_row g word line has hasnt) (range_with_len k m) ++ behind))
        ≡ shown_after (name_of g d) (marked (is_gone has hasnt d) mark before) (lines behind)
    rows_within zero k before behind least most few = absurd (omega arith)
    rows_within (suc m) k before behind least most few =
        let rest = flat_map (change_row g word line has hasnt) (range_with_len (k + 1) m) ++ behind in
        split_rows k m before behind
        ∙ ⊎_elim
        (λ s. let e : d ≡ k = s in
        ap (λ x. shown_after (name_of g d) before (lines (change_row g word line has hasnt x ++ rest))) (sym e) ∙ own_row before rest
        ∙ rows_past m (k + 1) (marked (is_gone has hasnt d) mark before) behind (omega arith) (omega arith))
        (λ s. let apart : d ≢ k = s in
        far_row k before rest (omega arith) apart ∙ rows_within m (k + 1) before behind (omega arith) (omega arith) (omega arith))
        (cases_eq d k)

    rows_show : (before : Bool) (behind : List ℕ) →
        shown_after (name_of g d) before (lines (change_rows g word line has hasnt ++ behind)) ≡ shown_after (name_of g d) (marked (is_gone has hasnt d) mark before) (lines behind)
    unfolding change_rows
    rows_show before behind = rows_within (length g.devices) 0 before behind (omega arith) (omega arith) (omega arith)

-- what leaves and what enters makes of the set before it the one after it
changed : (before after : Bool) → marked (after && not before) true (marked (before && not after) false before) ≡ after
changed true true = refl
changed true false = refl
changed false true = refl
changed false false = refl

plain_rule : (rule : LineRule) → are_plain (rule_word rule) ≡ true
plain_rule (Unread TooLong) = refl
plain_rule (Unread BadFields) = refl
plain_rule (Unread BadWord) = refl
plain_rule (Unread BadTime) = refl
plain_rule (Unread BadName) = refl
plain_rule (Unread UnknownMeter) = refl
plain_rule (Unread UnknownDevice) = refl
plain_rule (Unapplied Backwards) = refl
plain_rule (Unapplied NotClosed) = refl
plain_rule (Unapplied Loop) = refl

two_plain : (a b : List ℕ) → are_plain a ≡ true → are_plain b ≡ true → list_all are_plain (a ∷ b ∷ []) ≡ true
two_plain a b x y = and_from (are_plain a) (are_plain b && true) x (and_from (are_plain b) true y refl)

module _ (name : List ℕ) (before : Bool) where
  cost_shows : (line least after : ℕ) (behind : List ℕ) → shown_after name before (lines (cost_row line least after ++ behind)) ≡ shown_after name before (lines behind)
  cost_shows line least after behind = by (least == after)
    where
      by : (same : Bool) → shown_after name before (lines ((if same then [] else row (codes "cost" ∷ decimal line ∷ decimal after ∷ [])) ++ behind)) ≡ shown_after name before (lines behind)
      by true = refl
      by false = other_row name (codes "cost") (decimal line ∷ decimal after ∷ []) (two_plain (decimal line) (decimal after) (plain_decimal line) (plain_decimal after)) refl refl before behind

  refused_shows : (line : ℕ) (rule : LineRule) (behind : List ℕ) → shown_after name before (lines (refused_row line rule ++ behind)) ≡ shown_after name before (lines behind)
  refused_shows line rule behind =
      other_row name (codes "refused") (decimal line ∷ rule_word rule ∷ []) (two_plain (decimal line) (rule_word rule) (plain_decimal line) (plain_rule rule)) refl refl before behind

  at_end : shown_after name before (lines []) ≡ before
  unfolding shown_after lines
  at_end = refl

module _ (g : Parts) (sound : IsSoundParts g) (d : ℕ) (within : d < length g.devices) where
  changes_show : (line : ℕ) (h later : List Event) (behind : List ℕ) →
      shown_after (name_of g d) (diagnosis_after g h d) (lines (changes g line h later ++ behind)) ≡ shown_after (name_of g d) (diagnosis_after g later d) (lines behind)
  changes_show line h later behind =
      let name = name_of g d in
      let old = diagnosis_after g h in
      let new = diagnosis_after g later in
      let leaving = change_rows g (codes "leaves") line old new in
      let entering = change_rows g (codes "enters") line new old in
      let cost = cost_row line (least_after g h) (least_after g later) in
      let left = marked (is_gone old new d) false (old d) in
      ap (λ t. shown_after name (old d) (lines t)) (append_assoc (leaving ++ entering) cost behind ∙ append_assoc leaving entering (cost ++ behind))
      ∙ rows_show g sound d within (codes "leaves") false refl (λ n l x b. refl) line old new (old d) (entering ++ (cost ++ behind))
      ∙ rows_show g sound d within (codes "enters") true refl (λ n l x b. refl) line new old left (cost ++ behind)
      ∙ ap (λ b. shown_after name b (lines (cost ++ behind))) (changed (old d) (new d))
      ∙ cost_shows name (new d) line (least_after g h) (least_after g later) behind

  entry_shows : (line : ℕ) (h : List Event) (o : Outcome) (behind : List ℕ) →
      shown_after (name_of g d) (diagnosis_after g h d) (lines (entry g line h o ++ behind)) ≡ shown_after (name_of g d) (diagnosis_after g (history_by h o) d) (lines behind)
  entry_shows line h Skips behind = refl
  entry_shows line h (Refuses rule) behind = refused_shows (name_of g d) (diagnosis_after g h d) line rule behind
  entry_shows line h (Applies e) behind = changes_show line h (e ∷ h) behind

  entries_show : (events : List (List ℕ)) (number : ℕ) (h : List Event) (behind : List ℕ) →
      shown_after (name_of g d) (diagnosis_after g h d) (lines (entries g number h events ++ behind)) ≡ shown_after (name_of g d) (diagnosis_after g (history_in g h events) d) (lines behind)
  unfolding entries history_in
  entries_show [] number h behind = refl
  entries_show (line ∷ rest) number h behind =
      let o = outcome_of g h line in
      ap (λ t. shown_after (name_of g d) (diagnosis_after g h d) (lines t)) (append_assoc (entry g number h o) (entries g (number + 1) (history_by h o) rest) behind)
      ∙ entry_shows number h o (entries g (number + 1) (history_by h o) rest ++ behind)
      ∙ entries_show rest (number + 1) (history_by h o) behind

-- nothing is opened before the first event
none_weighs : (n : ℕ) (f : ℕ → ℕ) → ((k : ℕ) → f k ≡ 0) → total n f ≡ 0
none_weighs zero f none = refl
none_weighs (suc n) f none = let rest = none_weighs n f none in let here = none n in omega arith

each_is_none : (n : ℕ) (f : ℕ → ℕ) (k : ℕ) → k < n → total n f ≤ 0 → f k ≤ 0
each_is_none zero f k l none = absurd (omega arith)
each_is_none (suc n) f k l none =
    ⊎_elim (λ less. each_is_none n f k less (omega arith)) (λ most. let same : k ≡ n = (let m : n ≤ k = most in omega arith) in subst (λ x. f x ≤ 0) (sym same) (omega arith)) (cases_lt k n)

same_either : (b : Bool) (n : ℕ) → n ≡ 0 → (if b then n else 0) ≡ 0
same_either true n e = e
same_either false n e = refl

module _ (g : Parts) (sound : IsSoundParts g) where
  nothing_feasible : IsFeasible (problem_after g []) nothing
  unfolding problem_after
  nothing_feasible = record { closed = λ d l e. absurd (false≢true e); opened = λ d l e. absurd (false≢true e); fine = λ d l e. refl }

  none_reported : (n : ℕ) → (problem_after g []).dark_weight n ≡ 0
  unfolding problem_after
  none_reported n = none_weighs (length g.meters) (λ m. if node_of g m == n then 0 else 0) (λ m. same_either (node_of g m == n) 0 refl)

  none_denied : (n : ℕ) → (problem_after g []).live_weight n ≡ 0
  unfolding problem_after
  none_denied n = none_weighs (length g.meters) (λ m. if node_of g m == n then 0 else 0) (λ m. same_either (node_of g m == n) 0 refl)

  nothing_is_free : cost (problem_after g []) nothing ≡ 0
  nothing_is_free =
      let p = problem_after g [] in
      let devices : total p.devices (λ d. if nothing d then p.weight d else 0) ≡ 0 = none_weighs p.devices (λ d. 0) (λ d. refl) in
      let nodes : total p.nodes (λ n. if is_live p.net nothing n then p.dark_weight n else p.live_weight n) ≡ 0 =
      none_weighs p.nodes (λ n. if is_live p.net nothing n then p.dark_weight n else p.live_weight n) (λ n. both (is_live p.net nothing n) (p.dark_weight n) (p.live_weight n) (none_reported n) (none_denied n)) in
      omega arith
    where
      both : (b : Bool) (x y : ℕ) → x ≡ 0 → y ≡ 0 → (if b then x else y) ≡ 0
      both true x y e f = e
      both false x y e f = f

  weighs : (d : ℕ) → d < length g.devices → 1 ≤ (problem_after g []).weight d
  unfolding problem_after
  weighs d l = (sound.devices d l).weight

  numbered : length g.devices ≡ (problem_after g []).devices
  unfolding problem_after
  numbered = refl

  none_opened : (d : ℕ) → d < length g.devices → diagnosis_after g [] d ≡ false
  none_opened d l =
      let p = problem_after g [] in
      let cut = diagnosis_after g [] in
      let least : cost p cut ≤ cost p nothing = ((history_is_diagnosed g [] sound tt).diagnosis).least.least nothing nothing_feasible in
      let free = nothing_is_free in
      let here : (if cut d then p.weight d else 0) ≤ 0 =
      each_is_none p.devices (λ e. if cut e then p.weight e else 0) d (subst (λ n. d < n) numbered l) (omega arith) in
      closed (cut d) (p.weight d) (weighs d l) here
    where
      closed : (b : Bool) (w : ℕ) → 1 ≤ w → (if b then w else 0) ≤ 0 → b ≡ false
      closed true w l e = absurd (omega arith)
      closed false w l e = refl

  module _ (d : ℕ) (within : d < length g.devices) where
    from_nothing : (events : List (List ℕ)) (behind : List ℕ) →
        is_shown (name_of g d) (entries g 1 [] events ++ behind) ≡ shown_after (name_of g d) (diagnosis_after g (history_in g [] events) d) (lines behind)
    from_nothing events behind =
        ap (λ b. shown_after (name_of g d) b (lines (entries g 1 [] events ++ behind))) (sym (none_opened d within)) ∙ entries_show g sound d within events 1 [] behind

    entries_printed : (events : List (List ℕ)) → is_shown (name_of g d) (entries g 1 [] events) ≡ diagnosis_after g (history_in g [] events) d
    entries_printed events =
        ap (is_shown (name_of g d)) (sym (append-nil (entries g 1 [] events))) ∙ from_nothing events [] ∙ at_end (name_of g d) (diagnosis_after g (history_in g [] events) d)

    report_shows : (period : Period) (refused : ℕ) (h : List Event) → ShowsNothing (name_of g d) (report_text g period refused h)
    report_shows = report_is g sound.names (ShowsNothing (name_of g d)) (λ before behind. refl) (two_texts (name_of g d)) (report_row (name_of g d))

    replay_printed : (period : Period) (events : List ℕ) → is_shown (name_of g d) (replay_text g period events) ≡ diagnosis_after g (history_of g events) d
    unfolding replay_text
    replay_printed period events =
        let name = name_of g d in
        let report = report_text g period (refused_in g [] (lines events)) (history_of g events) in
        let after = diagnosis_after g (history_of g events) d in
        from_nothing (lines events) report
        ∙ ap (λ t. shown_after name after (lines t)) (sym (append-nil report))
        ∙ report_shows period (refused_in g [] (lines events)) (history_of g events) after []
        ∙ at_end name after

pub diagnosis_is_printed : DiagnosisIsPrinted
diagnosis_is_printed g d sound within = record { entries = entries_printed g sound d within; replay = replay_printed g sound d within }
