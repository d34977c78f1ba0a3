-- The rows of the report are lines that may stand before the bounds part.
use Rattle.std.proofs.Common.{◌≡◌, ℕ, ◌+◌, ◌/◌, ◌%◌, ◌*◌, Bool, true, false, refl, List, [], ◌∷◌, ◌++◌, length, Option, Some, None}
use Rattle.std.specs.Prelude.{◌==◌, codes, decimal, flat_map}
use Rattle.std.specs.List.{range_with_len}
use Rattle.std.proofs.lemmas.Bool.{and_from, cond_both}
use Rattle.grid_model.specs.Parts.{Parts}
use Rattle.grid_model.specs.Sound.{HasNames}
use Rattle.grid_model.specs.declared.history.Event.{Event}
use Rattle.grid_model.specs.declared.history.Line.{Line}
use Rattle.grid_model.specs.declared.history.Outage.{Outage}
use Rattle.grid_model.specs.declared.history.Period.{Period}
use Rattle.grid_model.specs.declared.history.Stamp.{Stamp}
use Rattle.event_rules.specs.Rows.{row}
use Rattle.event_rules.specs.Fractions.{Ratio, four_digits, ratio_words}
use Rattle.history_rules.specs.State.{now}
use Rattle.history_rules.specs.Evidence.{dark_weight, live_weight}
use Rattle.history_rules.specs.Posed.{least_after, diagnosis_after}
use Rattle.history_rules.specs.Outages.{outages_after}
use Rattle.history_rules.specs.Ledger.{is_judged_dark, ledger_after}
use Rattle.history_rules.specs.Crew.{crew_order}
use Rattle.history_rules.specs.Indices.{saifi, saidi, caidi}
use Rattle.history_rules.specs.StampTexts.{year_of, month_of, day_of_month, two_digits, date_text, clock_text, stamp_text}
use Rattle.history_rules.specs.Report.{device_word, meter_word, or_none, second_word, sort_word, now_word, outage_row, unexplained_by, unexplained_row, end_word, line_row, crew_rows, index_words, index_row, index_rows, first_rows_after, report_text}
use Rattle.bound_table.proofs.Commas.{are_words}
use Rattle.bound_table.proofs.WordBytes.{is_word_byte, is_word}
use Rattle.replay_laws.proofs.RowLines.{IsBefore, none, both, each, one_row, high_byte, decimal_word, word_append, onto, three_words, device_is_word, meter_is_word}

-- one digit, two and four
one_digit : (d : ℕ) → is_word ((48 + d) ∷ []) ≡ true
one_digit d = and_from (is_word_byte (48 + d)) true (high_byte d) refl

two_word : (n : ℕ) → is_word (two_digits n) ≡ true
two_word n = word_append ((48 + n / 10) ∷ []) ((48 + n % 10) ∷ []) (one_digit (n / 10)) (one_digit (n % 10))

four_word : (n : ℕ) → is_word (four_digits n) ≡ true
four_word n =
    word_append ((48 + n / 1000 % 10) ∷ []) ((48 + n / 100 % 10) ∷ (48 + n / 10 % 10) ∷ (48 + n % 10) ∷ []) (one_digit (n / 1000 % 10))
    (word_append ((48 + n / 100 % 10) ∷ []) ((48 + n / 10 % 10) ∷ (48 + n % 10) ∷ []) (one_digit (n / 100 % 10))
    (word_append ((48 + n / 10 % 10) ∷ []) ((48 + n % 10) ∷ []) (one_digit (n / 10 % 10)) (one_digit (n % 10))))

-- a second is a word
date_word : (day : ℕ) → is_word (date_text day) ≡ true
date_word day =
    let years = two_digits (year_of day % 100) in
    let months = two_digits (month_of day) in
    let days = two_digits (day_of_month day) in
    word_append (two_digits (year_of day / 100)) (years ++ (45 ∷ months ++ (45 ∷ days))) (two_word (year_of day / 100))
    (word_append years (45 ∷ months ++ (45 ∷ days)) (two_word (year_of day % 100)) (word_append months (45 ∷ days) (two_word (month_of day)) (two_word (day_of_month day))))

clock_word : (second : ℕ) → is_word (clock_text second) ≡ true
clock_word second =
    let minutes = two_digits (second / 60 % 60) in
    let seconds = two_digits (second % 60) in
    word_append (two_digits (second / 3600)) (58 ∷ minutes ++ (58 ∷ seconds)) (two_word (second / 3600)) (word_append minutes (58 ∷ seconds) (two_word (second / 60 % 60)) (two_word (second % 60)))

stamp_word : (at : ℕ) → is_word (stamp_text at) ≡ true
unfolding stamp_text
stamp_word at =
    word_append (date_text (at / 86400)) (84 ∷ clock_text (at % 86400) ++ (90 ∷ [])) (date_word (at / 86400)) (word_append (clock_text (at % 86400)) (90 ∷ []) (clock_word (at % 86400)) refl)

or_none_word : {X : Type 0} (text : X → List ℕ) (o : Option X) → ((x : X) → is_word (text x) ≡ true) → is_word (or_none text o) ≡ true
or_none_word text None h = refl
or_none_word text (Some x) h = h x

sort_is_word : (nested : Bool) → is_word (sort_word nested) ≡ true
sort_is_word true = refl
sort_is_word false = refl

now_is_word : (h : List Event) → is_word (now_word h) ≡ true
now_is_word [] = refl
now_is_word (e ∷ h) = stamp_word e.time.0

end_is_word : (end : Option Stamp) → is_word (end_word end) ≡ true
end_is_word None = refl
end_is_word (Some t) = stamp_word t.0

-- a fraction and its decimal are words
ratio_are_words : (r : Ratio) → are_words (ratio_words r) ≡ true
ratio_are_words r =
    let fraction = decimal r.top ++ (47 ∷ decimal r.under) in
    let number = decimal (r.top / r.under) ++ (46 ∷ four_digits (r.top % r.under * 10000 / r.under)) in
    onto fraction (number ∷ []) (word_append (decimal r.top) (47 ∷ decimal r.under) (decimal_word r.top) (decimal_word r.under))
    (onto number [] (word_append (decimal (r.top / r.under)) (46 ∷ four_digits (r.top % r.under * 10000 / r.under)) (decimal_word (r.top / r.under)) (four_word (r.top % r.under * 10000 / r.under))) refl)

index_are_words : (value : Option Ratio) → are_words (index_words value) ≡ true
index_are_words None = refl
index_are_words (Some r) = ratio_are_words r

index_line : (name : List ℕ) (value : Option Ratio) → is_word name ≡ true → IsBefore (index_row name value)
index_line name value h =
    one_row (codes "index" ∷ name ∷ index_words value) (onto (codes "index") (name ∷ index_words value) refl (onto name (index_words value) h (index_are_words value))) refl

module _ (g : Parts) (names : HasNames g) where
  first_lines : (refused : ℕ) (h : List Event) → IsBefore (first_rows_after g refused h)
  unfolding first_rows_after
  first_lines refused h =
      let report = codes "report" ∷ now_word h ∷ [] in
      let counts = codes "counts" ∷ decimal (length h) ∷ decimal refused ∷ [] in
      let total = codes "total" ∷ decimal (least_after g h) ∷ [] in
      both (row report ++ row counts) (row total)
      (both (row report) (row counts)
      (one_row report (onto (codes "report") (now_word h ∷ []) refl (onto (now_word h) [] (now_is_word h) refl)) refl)
      (one_row counts (three_words (codes "counts") (decimal (length h)) (decimal refused) refl (decimal_word (length h)) (decimal_word refused)) refl))
      (one_row total (onto (codes "total") (decimal (least_after g h) ∷ []) refl (onto (decimal (least_after g h)) [] (decimal_word (least_after g h)) refl)) refl)

  outage_line : (o : Outage) → IsBefore (outage_row g o)
  outage_line o =
      let sort = sort_word o.nested ∷ [] in
      let since = or_none second_word o.since ∷ sort in
      let customers = decimal o.customers ∷ since in
      let meters = decimal o.meters ∷ customers in
      let above = or_none (λ d. device_word g d.0) o.above ∷ meters in
      let device = device_word g o.device.0 ∷ above in
      one_row (codes "outage" ∷ device)
      (onto (codes "outage") device refl
      (onto (device_word g o.device.0) above (device_is_word g names o.device.0)
      (onto (or_none (λ d. device_word g d.0) o.above) meters (or_none_word (λ d. device_word g d.0) o.above (λ d. device_is_word g names d.0))
      (onto (decimal o.meters) customers (decimal_word o.meters)
      (onto (decimal o.customers) since (decimal_word o.customers)
      (onto (or_none second_word o.since) sort (or_none_word second_word o.since (λ t. stamp_word t.0))
      (onto (sort_word o.nested) [] (sort_is_word o.nested) refl)))))))
      refl

  crew_lines : (number : ℕ) (outages : List Outage) → IsBefore (crew_rows g number outages)
  unfolding crew_rows
  crew_lines number [] = none
  crew_lines number (o ∷ rest) =
      let words = codes "crew" ∷ decimal number ∷ device_word g o.device.0 ∷ [] in
      both (row words) (crew_rows g (number + 1) rest)
      (one_row words (three_words (codes "crew") (decimal number) (device_word g o.device.0) refl (decimal_word number) (device_is_word g names o.device.0)) refl)
      (crew_lines (number + 1) rest)

  weight_line : (m : ℕ) (word : List ℕ) (weight : ℕ) → is_word word ≡ true → IsBefore (unexplained_by g m word weight)
  weight_line m word weight h =
      let words = codes "unexplained" ∷ meter_word g m ∷ word ∷ decimal weight ∷ [] in
      cond_both (weight == 0) [] (row words) IsBefore (λ e. none)
      (λ e. one_row words
      (onto (codes "unexplained") (meter_word g m ∷ word ∷ decimal weight ∷ []) refl (three_words (meter_word g m) word (decimal weight) (meter_is_word g names m) h (decimal_word weight)))
      refl)

  unexplained_line : (h : List Event) (m : ℕ) → IsBefore (unexplained_row g h m)
  unfolding unexplained_row
  unexplained_line h m =
      cond_both (is_judged_dark g m h) (unexplained_by g m (codes "live") (live_weight g h m)) (unexplained_by g m (codes "dark") (dark_weight g h m)) IsBefore
      (λ e. weight_line m (codes "live") (live_weight g h m) refl) (λ e. weight_line m (codes "dark") (dark_weight g h m) refl)

  ledger_line : (l : Line) → IsBefore (line_row g l)
  ledger_line l =
      one_row (codes "line" ∷ meter_word g l.meter.0 ∷ second_word l.start ∷ end_word l.end ∷ [])
      (onto (codes "line") (meter_word g l.meter.0 ∷ second_word l.start ∷ end_word l.end ∷ []) refl
      (three_words (meter_word g l.meter.0) (second_word l.start) (end_word l.end) (meter_is_word g names l.meter.0) (stamp_word l.start.0) (end_is_word l.end)))
      refl

  index_lines : (period : Period) (now : ℕ) (lines : List Line) → IsBefore (index_rows g period now lines)
  unfolding index_rows
  index_lines period now lines =
      let first = index_row (codes "saifi") (saifi g period now lines) in
      let second = index_row (codes "saidi") (saidi g period now lines) in
      let third = index_row (codes "caidi") (caidi g period now lines) in
      both (first ++ second) third
      (both first second (index_line (codes "saifi") (saifi g period now lines) refl) (index_line (codes "saidi") (saidi g period now lines) refl))
      (index_line (codes "caidi") (caidi g period now lines) refl)

  -- all of the report
  pub report_lines : (period : Period) (refused : ℕ) (h : List Event) → IsBefore (report_text g period refused h)
  unfolding report_text
  report_lines period refused h =
      let outages = outages_after g h (diagnosis_after g h) in
      let meters = range_with_len 0 (length g.meters) in
      let ledger = ledger_after g h in
      let first = first_rows_after g refused h in
      let second = flat_map (outage_row g) outages in
      let third = crew_rows g 1 (crew_order outages) in
      let fourth = flat_map (unexplained_row g h) meters in
      let fifth = flat_map (line_row g) ledger in
      let sixth = index_rows g period (now h) ledger in
      both (first ++ second ++ third ++ fourth ++ fifth ++ sixth) (row (codes "end" ∷ []))
      (both (first ++ second ++ third ++ fourth ++ fifth) sixth
      (both (first ++ second ++ third ++ fourth) fifth
      (both (first ++ second ++ third) fourth
      (both (first ++ second) third
      (both first second (first_lines refused h) (each (outage_row g) outages outage_line))
      (crew_lines 1 (crew_order outages)))
      (each (unexplained_row g h) meters (unexplained_line h)))
      (each (line_row g) ledger ledger_line))
      (index_lines period (now h) ledger))
      (one_row (codes "end" ∷ []) refl refl)
