-- The report is rows: what holds of the empty text, of two texts behind one another and of each row holds of the report.
use Rattle.std.proofs.Common.{◌≡◌, ℕ, zero, suc, ◌+◌, ◌*◌, ◌/◌, ◌%◌, ◌<◌, ◌≤◌, Bool, true, false, List, [], ◌∷◌, ◌++◌, refl, ◌∙◌, sym, subst, ap, length, arith, ⊎_elim}
use Rattle.std.specs.Prelude.{◌==◌, ◌&&◌, ◌||◌, not, nat_le, codes, decimal, flat_map, if◌then◌else◌, Option, Some, None}
use Rattle.std.specs.List.{list_all, range_with_len}
use Rattle.std.specs.Str.{bytes_eq}
use Rattle.std.specs.Char.{is_ascii_alphanumeric}
use Rattle.std.specs.Fmt.{digits, digits_onto, digit_glyph}
use Rattle.std.proofs.lemmas.Bool.{and_parts, and_from, or_cases, cond_both, le-leb, leb-true, eqb-true, lt-ltb, cases_lt}
use Rattle.std.proofs.lemmas.List.{get_or_past}
use Rattle.std.proofs.lemmas.List.Folds.{list_all-append}
use Rattle.grid_model.specs.Parts.{Parts}
use Rattle.grid_model.specs.Name.{is_name_byte, is_name}
use Rattle.grid_model.specs.Places.{no_device, device_at, no_meter, meter_at}
use Rattle.grid_model.specs.Sound.{HasNames}
use Rattle.grid_model.specs.declared.history.Event.{Event}
use Rattle.grid_model.specs.declared.history.Line.{Line}
use Rattle.grid_model.specs.declared.history.Outage.{Outage}
use Rattle.grid_model.specs.declared.history.Period.{Period}
use Rattle.grid_model.specs.declared.history.Stamp.{Stamp}
use Rattle.event_rules.specs.Rows.{row}
use Rattle.event_rules.specs.Fractions.{Ratio, four_digits}
use Rattle.history_rules.specs.State.{now}
use Rattle.history_rules.specs.Evidence.{dark_weight, live_weight}
use Rattle.history_rules.specs.Posed.{least_after, diagnosis_after}
use Rattle.history_rules.specs.Outages.{outages_after}
use Rattle.history_rules.specs.Ledger.{is_judged_dark, ledger_after}
use Rattle.history_rules.specs.Crew.{crew_order}
use Rattle.history_rules.specs.Indices.{saifi, saidi, caidi, whole_period}
use Rattle.history_rules.specs.StampTexts.{year_of, month_of, day_of_month, stamp_text}
use Rattle.history_rules.specs.Report.{device_word, meter_word, or_none, second_word, sort_word, now_word, outage_row, unexplained_by, unexplained_row, end_word, line_row, crew_rows, index_words, index_row, index_rows, first_rows_after, report_text, summary_text}

-- the rows of a report, by their first words
pub data RowSort : Type 0 where
  ReportRow : RowSort
  CountsRow : RowSort
  TotalRow : RowSort
  OutageRow : RowSort
  CrewRow : RowSort
  UnexplainedRow : RowSort
  LineRow : RowSort
  IndexRow : RowSort
  EndRow : RowSort

abbrev pub first_word : RowSort → List ℕ
first_word ReportRow = codes "report"
first_word CountsRow = codes "counts"
first_word TotalRow = codes "total"
first_word OutageRow = codes "outage"
first_word CrewRow = codes "crew"
first_word UnexplainedRow = codes "unexplained"
first_word LineRow = codes "line"
first_word IndexRow = codes "index"
first_word EndRow = codes "end"

-- bytes behind the comma: neither a comma nor a quote nor an end of a line
abbrev pub is_row_word : List ℕ → Bool
is_row_word word = list_all (nat_le 45) word

pub record AreRowWords (words : List (List ℕ)) : Type 0 where
  pub all : list_all is_row_word words ≡ true

glyph_fits : (k : ℕ) → k < 10 → nat_le 45 (digit_glyph false k) ≡ true
glyph_fits k l = subst (λ b. nat_le 45 (if b then 48 + k else 87 + k) ≡ true) (sym (lt-ltb k 10 l)) (le-leb 45 (48 + k) (omega arith))

digits_fit : (k n : ℕ) (behind : List ℕ) → is_row_word behind ≡ true → is_row_word (digits_onto k 10 false n behind) ≡ true
digits_fit zero n behind h = h
digits_fit (suc k) n behind h =
    let digit = digit_glyph false (n % 10) in
    let more = and_from (nat_le 45 digit) (is_row_word behind) (glyph_fits (n % 10) (omega arith)) h in
    cond_both (n / 10 == 0) (digit ∷ behind) (digits_onto k 10 false (n / 10) (digit ∷ behind)) (λ word. is_row_word word ≡ true) (λ e. more) (λ e. digits_fit k (n / 10) (digit ∷ behind) more)

pub decimal_fits : (n : ℕ) → is_row_word (decimal n) ≡ true
unfolding digits
decimal_fits n = digits_fit 64 n [] refl

-- the bytes of a name
in_range_fits : (low high b : ℕ) → 45 ≤ low → (nat_le low b && nat_le b high) ≡ true → nat_le 45 b ≡ true
in_range_fits low high b l h = let least = leb-true low b (and_parts (nat_le low b) (nat_le b high) h).0 in le-leb 45 b (omega arith)

name_byte_fits : (b : ℕ) → is_name_byte b ≡ true → nat_le 45 b ≡ true
name_byte_fits b h =
    either (is_ascii_alphanumeric b || (b == 95) || (b == 45) || (b == 46)) (b == 47)
    (either (is_ascii_alphanumeric b || (b == 95) || (b == 45)) (b == 46)
    (either (is_ascii_alphanumeric b || (b == 95)) (b == 45)
    (either (is_ascii_alphanumeric b) (b == 95)
    (either ((nat_le 48 b && nat_le b 57) || (nat_le 65 b && nat_le b 90)) (nat_le 97 b && nat_le b 122)
    (either (nat_le 48 b && nat_le b 57) (nat_le 65 b && nat_le b 90) (in_range_fits 48 57 b (omega arith)) (in_range_fits 65 90 b (omega arith)))
    (in_range_fits 97 122 b (omega arith)))
    (same 95 refl)) (same 45 refl)) (same 46 refl)) (same 47 refl) h
  where
    either : (x y : Bool) → (x ≡ true → nat_le 45 b ≡ true) → (y ≡ true → nat_le 45 b ≡ true) → (x || y) ≡ true → nat_le 45 b ≡ true
    either x y left right e = ⊎_elim left right (or_cases x y e)

    same : (n : ℕ) → nat_le 45 n ≡ true → (b == n) ≡ true → nat_le 45 b ≡ true
    same n fits e = subst (λ k. nat_le 45 k ≡ true) (sym (eqb-true b n e)) fits

name_fits : (name : List ℕ) → is_name name ≡ true → is_row_word name ≡ true
name_fits name h =
    let a = and_parts (nat_le 1 (length name) && nat_le (length name) 32 && list_all is_name_byte name) (not (bytes_eq name (45 ∷ []))) h in
    let b = and_parts (nat_le 1 (length name) && nat_le (length name) 32) (list_all is_name_byte name) a.0 in
    each_byte name b.1
  where
    each_byte : (text : List ℕ) → list_all is_name_byte text ≡ true → is_row_word text ≡ true
    each_byte [] e = refl
    each_byte (x ∷ text) e =
        let both = and_parts (is_name_byte x) (list_all is_name_byte text) e in and_from (nat_le 45 x) (is_row_word text) (name_byte_fits x both.0) (each_byte text both.1)

-- two digits before more
pair_fits : (n : ℕ) (rest : Bool) → rest ≡ true → (nat_le 45 (48 + n / 10) && (nat_le 45 (48 + n % 10) && rest)) ≡ true
pair_fits n rest r =
    and_from (nat_le 45 (48 + n / 10)) (nat_le 45 (48 + n % 10) && rest) (le-leb 45 (48 + n / 10) (omega arith))
    (and_from (nat_le 45 (48 + n % 10)) rest (le-leb 45 (48 + n % 10) (omega arith)) r)

stamp_fits : (at : ℕ) → is_row_word (stamp_text at) ≡ true
unfolding stamp_text
stamp_fits at =
    let day = at / 86400 in
    let second = at % 86400 in
    pair_fits (year_of day / 100) _ (pair_fits (year_of day % 100) _ (pair_fits (month_of day) _ (pair_fits (day_of_month day) _
    (pair_fits (second / 3600) _ (pair_fits (second / 60 % 60) _ (pair_fits (second % 60) true refl))))))

four_fit : (n : ℕ) → is_row_word (four_digits n) ≡ true
four_fit n =
    digit (n / 1000 % 10) _ (digit (n / 100 % 10) _ (digit (n / 10 % 10) _ (digit (n % 10) true refl)))
  where
    digit : (d : ℕ) (rest : Bool) → rest ≡ true → (nat_le 45 (48 + d) && rest) ≡ true
    digit d rest r = and_from (nat_le 45 (48 + d)) rest (le-leb 45 (48 + d) (omega arith)) r

-- two texts with a byte between them
joined_fits : (a b : List ℕ) (middle : ℕ) → nat_le 45 middle ≡ true → is_row_word a ≡ true → is_row_word b ≡ true → is_row_word (a ++ middle ∷ b) ≡ true
joined_fits a b middle m x y =
    list_all-append (nat_le 45) a (middle ∷ b) ∙ and_from (is_row_word a) (is_row_word (middle ∷ b)) x (and_from (nat_le 45 middle) (is_row_word b) m y)

no_word : AreRowWords []
no_word = record { all = refl }

with_word : (word : List ℕ) {words : List (List ℕ)} → is_row_word word ≡ true → AreRowWords words → AreRowWords (word ∷ words)
with_word word {words} x y = record { all = and_from (is_row_word word) (list_all is_row_word words) x y.all }

or_none_fits : {X : Type 0} (text : X → List ℕ) → ((x : X) → is_row_word (text x) ≡ true) → (o : Option X) → is_row_word (or_none text o) ≡ true
or_none_fits text each None = refl
or_none_fits text each (Some x) = each x

sort_fits : (nested : Bool) → is_row_word (sort_word nested) ≡ true
sort_fits true = refl
sort_fits false = refl

second_fits : (t : Stamp) → is_row_word (second_word t) ≡ true
second_fits t = stamp_fits t.0

now_fits : (h : List Event) → is_row_word (now_word h) ≡ true
now_fits [] = refl
now_fits (e ∷ h) = second_fits e.time

end_fits : (o : Option Stamp) → is_row_word (end_word o) ≡ true
end_fits None = refl
end_fits (Some t) = second_fits t

index_fits : (o : Option Ratio) → AreRowWords (index_words o)
index_fits None = with_word (codes "none") refl no_word
index_fits (Some r) =
    with_word (decimal r.top ++ 47 ∷ decimal r.under) (joined_fits (decimal r.top) (decimal r.under) 47 refl (decimal_fits r.top) (decimal_fits r.under))
    (with_word (decimal (r.top / r.under) ++ 46 ∷ four_digits (r.top % r.under * 10000 / r.under))
    (joined_fits (decimal (r.top / r.under)) (four_digits (r.top % r.under * 10000 / r.under)) 46 refl (decimal_fits (r.top / r.under)) (four_fit (r.top % r.under * 10000 / r.under))) no_word)

module _ (g : Parts) (names : HasNames g) where
  -- the name of a device, also the empty one past the last device
  pub device_fits : (d : ℕ) → is_row_word (device_at g d).name ≡ true
  device_fits d =
      ⊎_elim (λ l. name_fits (device_at g d).name (names.devices d no_device l)) (λ l. ap (λ v. is_row_word v.name) (get_or_past g.devices d no_device l)) (cases_lt d (length g.devices))

  meter_fits : (m : ℕ) → is_row_word (meter_at g m).name ≡ true
  meter_fits m =
      ⊎_elim (λ l. name_fits (meter_at g m).name (names.meters m no_meter l)) (λ l. ap (λ v. is_row_word v.name) (get_or_past g.meters m no_meter l)) (cases_lt m (length g.meters))

  -- what is proved of all texts of rows
  module _ (P : List ℕ → Type 0) (none : P []) (both : (a b : List ℕ) → P a → P b → P (a ++ b))
      (one : (sort : RowSort) (words : List (List ℕ)) → AreRowWords words → P (row (first_word sort ∷ words))) where
    each : {X : Type 0} (f : X → List ℕ) (xs : List X) → ((x : X) → P (f x)) → P (flat_map f xs)
    each f [] h = none
    each f (x ∷ xs) h = both (f x) (flat_map f xs) (h x) (each f xs h)

    first_rows : (refused : ℕ) (h : List Event) → P (first_rows_after g refused h)
    unfolding first_rows_after
    first_rows refused h =
        both _ _
        (both _ _ (one ReportRow (now_word h ∷ []) (with_word (now_word h) (now_fits h) no_word))
        (one CountsRow (decimal (length h) ∷ decimal refused ∷ []) (with_word (decimal (length h)) (decimal_fits (length h)) (with_word (decimal refused) (decimal_fits refused) no_word))))
        (one TotalRow (decimal (least_after g h) ∷ []) (with_word (decimal (least_after g h)) (decimal_fits (least_after g h)) no_word))

    outage_is : (o : Outage) → P (outage_row g o)
    outage_is o =
        one OutageRow (device_word g o.device.0 ∷ or_none (λ d. device_word g d.0) o.above ∷ decimal o.meters ∷ decimal o.customers ∷ or_none second_word o.since ∷ sort_word o.nested ∷ [])
        (with_word (device_word g o.device.0) (device_fits o.device.0)
        (with_word (or_none (λ d. device_word g d.0) o.above) (or_none_fits (λ d. device_word g d.0) (λ d. device_fits d.0) o.above)
        (with_word (decimal o.meters) (decimal_fits o.meters)
        (with_word (decimal o.customers) (decimal_fits o.customers)
        (with_word (or_none second_word o.since) (or_none_fits second_word second_fits o.since) (with_word (sort_word o.nested) (sort_fits o.nested) no_word))))))

    crew_are : (outages : List Outage) (number : ℕ) → P (crew_rows g number outages)
    unfolding crew_rows
    crew_are [] number = none
    crew_are (o ∷ rest) number =
        both (row (codes "crew" ∷ decimal number ∷ device_word g o.device.0 ∷ [])) (crew_rows g (number + 1) rest)
        (one CrewRow (decimal number ∷ device_word g o.device.0 ∷ []) (with_word (decimal number) (decimal_fits number) (with_word (device_word g o.device.0) (device_fits o.device.0) no_word)))
        (crew_are rest (number + 1))

    weighed_is : (m : ℕ) (word : List ℕ) (weight : ℕ) → is_row_word word ≡ true → P (unexplained_by g m word weight)
    weighed_is m word weight fits =
        cond_both (weight == 0) [] (row (codes "unexplained" ∷ meter_word g m ∷ word ∷ decimal weight ∷ [])) P (λ e. none)
        (λ e. one UnexplainedRow (meter_word g m ∷ word ∷ decimal weight ∷ [])
        (with_word (meter_word g m) (meter_fits m) (with_word word fits (with_word (decimal weight) (decimal_fits weight) no_word))))

    unexplained_is : (h : List Event) (m : ℕ) → P (unexplained_row g h m)
    unfolding unexplained_row
    unexplained_is h m =
        cond_both (is_judged_dark g m h) (unexplained_by g m (codes "live") (live_weight g h m)) (unexplained_by g m (codes "dark") (dark_weight g h m)) P
        (λ e. weighed_is m (codes "live") (live_weight g h m) refl) (λ e. weighed_is m (codes "dark") (dark_weight g h m) refl)

    line_is : (l : Line) → P (line_row g l)
    line_is l =
        one LineRow (meter_word g l.meter.0 ∷ second_word l.start ∷ end_word l.end ∷ [])
        (with_word (meter_word g l.meter.0) (meter_fits l.meter.0) (with_word (second_word l.start) (second_fits l.start) (with_word (end_word l.end) (end_fits l.end) no_word)))

    index_is : (name : List ℕ) (value : Option Ratio) → is_row_word name ≡ true → P (index_row name value)
    index_is name value fits = one IndexRow (name ∷ index_words value) (with_word name fits (index_fits value))

    indices_are : (period : Period) (at : ℕ) (lines : List Line) → P (index_rows g period at lines)
    unfolding index_rows
    indices_are period at lines =
        both _ _ (both _ _ (index_is (codes "saifi") (saifi g period at lines) refl) (index_is (codes "saidi") (saidi g period at lines) refl)) (index_is (codes "caidi") (caidi g period at lines) refl)

    pub report_is : (period : Period) (refused : ℕ) (h : List Event) → P (report_text g period refused h)
    unfolding report_text
    report_is period refused h =
        let outages = outages_after g h (diagnosis_after g h) in
        both _ _
        (both _ _
        (both _ _
        (both _ _
        (both _ _ (both _ _ (first_rows refused h) (each (outage_row g) outages outage_is)) (crew_are (crew_order outages) 1))
        (each (unexplained_row g h) (range_with_len 0 (length g.meters)) (unexplained_is h)))
        (each (line_row g) (ledger_after g h) line_is))
        (indices_are period (now h) (ledger_after g h)))
        (one EndRow [] no_word)

    pub summary_is : (refused : ℕ) (h : List Event) → P (summary_text g refused h)
    unfolding summary_text
    summary_is refused h = both _ _ (both _ _ (first_rows refused h) (indices_are whole_period (now h) (ledger_after g h))) (one EndRow [] no_word)
