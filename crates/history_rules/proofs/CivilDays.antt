-- The year, the month and the day of a day number.
use Rattle.std.proofs.Common.{◌≡◌, ℕ, zero, suc, ◌+◌, ◌-◌, ◌<◌, ◌≤◌, Bool, true, false, List, ◌∷◌, length, cond, nat_le, ℤ, pos, ◌≤ℤ◌, inl, inr, refl, sym, ◌∙◌, ap, arith}
use Rattle.std.specs.List.{filter, range_with_len}
use Rattle.std.proofs.lemmas.Bool.{false≢true, and_from, leb-true, leb-false, le-leb, cases_order}
use Rattle.std.proofs.lemmas.Int.{by_lt_z}
use Rattle.jiff_core.specs.Calendar.{days_in_year, days_in_month, days_of_months, day_count, days_from_civil}
use Rattle.jiff_core.proofs.SignedLemmas.{signed_arith, one_part}
use Rattle.jiff_core.proofs.CalendarLemmas.{day_count-epoch, day_count-end, days_from_civil-day_count, day_count-next_year, day_count-later_year, day_count-day_of_year, day_count-day, days_of_months_mono, days_of_months_more, days_of_months_all, days_in_month_bounds}
use Rattle.event_rules.specs.Stamps.{is_date, day_number}
use Rattle.history_rules.specs.StampTexts.{how_many, year_of, month_of, day_of_month}

-- a is below b, or it isn't
by_order : {P : Type 0} (a b : ℕ) → (a < b → P) → (b ≤ a → P) → P
by_order a b f g = elim (cases_order a b) [
  | inl same ↦ g (omega arith)
  | inr other ↦ elim other [
    | inl lt ↦ f lt
    | inr gt ↦ g (omega arith)
  ]
]

-- once the test fails, it fails for good
abbrev FailsForGood : (ℕ → Bool) → ℕ → Type 0
FailsForGood test first = (early late : ℕ) → first ≤ early → early ≤ late → test late ≡ true → test early ≡ true

-- the place at which the test begins to fail
record IsPlace (test : ℕ → Bool) (first count place : ℕ) : Type 0 where
  within : place ≤ count
  passes : (k : ℕ) → k < place → test (first + k) ≡ true
  fails : place < count → test (first + place) ≡ false

passes_more : (test : ℕ → Bool) (first place k : ℕ) → test first ≡ true → ((j : ℕ) → j < place → test (first + 1 + j) ≡ true) → k < suc place → test (first + k) ≡ true
passes_more test first place zero h rest lt = let same : first + zero ≡ first = omega arith in ap test same ∙ h
passes_more test first place (suc k) h rest lt = let same : first + suc k ≡ first + 1 + k = omega arith in ap test same ∙ rest k (omega arith)

none_later : (test : ℕ → Bool) (first place : ℕ) → FailsForGood test first → test first ≡ false → ((k : ℕ) → k < place → test (first + 1 + k) ≡ true) → place ≡ 0
none_later test first zero good e rest = refl
none_later test first (suc place) good e rest =
    absurd (false≢true (sym e ∙ good first (first + 1 + 0) (omega arith) (omega arith) (rest 0 (omega arith))))

place_step : (b : Bool) (test : ℕ → Bool) (first count : ℕ) (rest : List ℕ) → test first ≡ b → FailsForGood test first → IsPlace test (first + 1) count (length rest) → IsPlace test first (suc count) (length (cond b (first ∷ rest) rest))
place_step true test first count rest e good p =
    let same : first + suc (length rest) ≡ first + 1 + length rest = omega arith in
    record {
      within = omega (arith, p.within);
      passes = λ k lt. passes_more test first (length rest) k e p.passes lt;
      fails = λ lt. ap test same ∙ p.fails (omega arith);
    }
place_step false test first count rest e good p =
    let none = none_later test first (length rest) good e p.passes in
    let same : first + length rest ≡ first = omega (arith, none) in
    record {
      within = omega (arith, none);
      passes = λ k lt. absurd (omega (arith, none));
      fails = λ lt. ap test same ∙ e;
    }

place_found : (test : ℕ → Bool) (first count : ℕ) → FailsForGood test first → IsPlace test first count (length (filter test (range_with_len first count)))
place_found test first zero good =
    record { within = omega arith; passes = λ k lt. absurd (omega arith); fails = λ lt. absurd (omega arith) }
place_found test first (suc count) good =
    place_step (test first) test first count (filter test (range_with_len (first + 1) count)) refl good
    (place_found test (first + 1) count (λ early late low le. good early late (omega arith) le))

-- the number of those that pass is that place
place_is : (test : ℕ → Bool) (first count : ℕ) → FailsForGood test first → IsPlace test first count (how_many test first count)
unfolding how_many
place_is test first count good = place_found test first count good

-- a year from 1970 on begins with or behind 1970-01-01
year_start : (y : ℤ) → pos 1970 ≤ℤ y → 4_371_953 ≤ day_count y 1 1
year_start y late =
    by_lt_z (pos 1970) y
    (λ lt. omega (arith, day_count-later_year (pos 1970) y (omega (arith, signed_arith)) lt, day_count-epoch))
    (λ le. let e : y ≡ pos 1970 = omega (arith, signed_arith) in rw e (omega (arith, day_count-epoch)))

not_before_1970 : (y : ℤ) (m d : ℕ) → pos 1970 ≤ℤ y → 1 ≤ d → pos 0 ≤ℤ days_from_civil y m d
not_before_1970 y m d late first =
    omega (arith, signed_arith, days_from_civil-day_count y m d, day_count-day_of_year y m d first, year_start y late)

-- a day number from 1970 on, by the library's count
number_count : (y m d : ℕ) → 1970 ≤ y → 1 ≤ d → day_number y m d + 4_371_953 ≡ day_count (pos y) m d
number_count y m d late first =
    omega (arith, signed_arith, one_part (days_from_civil (pos y) m d), not_before_1970 (pos y) m d (omega (arith, signed_arith)) first, days_from_civil-day_count (pos y) m d)

first_number : day_number 1970 1 1 ≡ 0
first_number = omega (arith, number_count 1970 1 1 (omega arith) (omega arith), day_count-epoch)

end_number : day_number 10000 1 1 ≡ 2932897
end_number = omega (arith, number_count 10000 1 1 (omega arith) (omega arith), day_count-end)

next_year : (y : ℕ) → 1970 ≤ y → day_number (y + 1) 1 1 ≡ day_number y 1 1 + days_in_year (pos y)
next_year y late =
    omega (arith, number_count y 1 1 late (omega arith), number_count (y + 1) 1 1 (omega arith) (omega arith), day_count-next_year (pos y) (pos (y + 1)) (omega (arith, signed_arith)) (omega (arith, signed_arith)))

later_year : (early late : ℕ) → 1970 ≤ early → early < late → day_number early 1 1 ≤ day_number late 1 1
later_year early late first lt =
    omega (arith, number_count early 1 1 first (omega arith), number_count late 1 1 (omega arith) (omega arith), day_count-later_year (pos early) (pos late) (omega (arith, signed_arith)) (omega (arith, signed_arith)))

years_rise : (early late : ℕ) → 1970 ≤ early → early ≤ late → day_number early 1 1 ≤ day_number late 1 1
years_rise early late first le =
    by_order early late
    (λ lt. later_year early late first lt)
    (λ ge. let same : early ≡ late = omega arith in rw same (omega arith))

-- a month begins after the days of the months before it, and ends with its own days
month_start : (y m : ℕ) → 1970 ≤ y → day_number y m 1 ≡ day_number y 1 1 + days_of_months (pos y) (m - 1)
month_start y m late =
    omega (arith, number_count y m 1 late (omega arith), number_count y 1 1 late (omega arith), day_count-day_of_year (pos y) m 1 (omega arith))

month_end : (y m : ℕ) → 1970 ≤ y → 1 ≤ m → day_number y m 1 + days_in_month (pos y) m ≡ day_number y 1 1 + days_of_months (pos y) m
month_end y m late first = omega (arith, month_start y m late, days_of_months_more (pos y) m first)

months_rise : (y early late : ℕ) → 1970 ≤ y → early ≤ late → day_number y early 1 ≤ day_number y late 1
months_rise y early late first le =
    omega (arith, month_start y early first, month_start y late first, days_of_months_mono (pos y) (early - 1) (late - 1) (omega arith))

-- the day lies in this year
record IsYearOf (day y : ℕ) : Type 0 where
  first_year : 1970 ≤ y
  last_year : y ≤ 9999
  begun : day_number y 1 1 ≤ day
  ends : day < day_number y 1 1 + days_in_year (pos y)

-- and in this month of it
record IsMonthOf (day y m : ℕ) : Type 0 where
  first_month : 1 ≤ m
  last_month : m ≤ 12
  begun : day_number y m 1 ≤ day
  ends : day < day_number y m 1 + days_in_month (pos y) m

abbrev year_begun : ℕ → ℕ → Bool
year_begun day y = nat_le (day_number y 1 1) day

abbrev month_begun : ℕ → ℕ → ℕ → Bool
month_begun day y m = nat_le (day_number y m 1) day

years_fail : (day : ℕ) → FailsForGood (year_begun day) 1971
years_fail day early late low le e =
    le-leb _ _ (omega (arith, years_rise early late (omega arith) le, leb-true (day_number late 1 1) day e))

months_fail : (day y : ℕ) → 1970 ≤ y → FailsForGood (month_begun day y) 1
months_fail day y first early late low le e =
    le-leb _ _ (omega (arith, months_rise y early late first le, leb-true (day_number y late 1) day e))

year_started : (day c : ℕ) → IsPlace (year_begun day) 1971 8029 c → day_number (1970 + c) 1 1 ≤ day
year_started day zero p = let same : 1970 + zero ≡ 1970 = omega arith in rw same (omega (arith, first_number))
year_started day (suc k) p =
    let same : 1970 + suc k ≡ 1971 + k = omega arith in
    rw same (leb-true (day_number (1971 + k) 1 1) day (p.passes k (omega arith)))

year_over : (day c : ℕ) → day ≤ 2932896 → IsPlace (year_begun day) 1971 8029 c → day < day_number (1970 + c + 1) 1 1
year_over day c last p =
    by_order c 8029
    (λ lt.
    let same : 1970 + c + 1 ≡ 1971 + c = omega arith in
    rw same (leb-false (day_number (1971 + c) 1 1) day (p.fails lt)))
    (λ ge.
    let same : 1970 + c + 1 ≡ 10000 = omega (arith, p.within) in
    rw same (omega (arith, end_number)))

year_there : (day c : ℕ) → day ≤ 2932896 → IsPlace (year_begun day) 1971 8029 c → IsYearOf day (1970 + c)
year_there day c last p =
    record {
      first_year = omega arith;
      last_year = omega (arith, p.within);
      begun = year_started day c p;
      ends = omega (arith, year_over day c last p, next_year (1970 + c) (omega arith));
    }

year_is : (day : ℕ) → day ≤ 2932896 → IsYearOf day (year_of day)
unfolding year_of
year_is day last = year_there day (how_many (year_begun day) 1971 8029) last (place_is (year_begun day) 1971 8029 (years_fail day))

month_over : (day y c : ℕ) → IsYearOf day y → 1 ≤ c → IsPlace (month_begun day y) 1 12 c → day < day_number y c 1 + days_in_month (pos y) c
month_over day y c in_year first p =
    by_order c 12
    (λ lt.
    let back : 1 + c - 1 ≡ c = omega arith in
    omega (arith, leb-false (day_number y (1 + c) 1) day (p.fails lt), rw back at (month_start y (1 + c) in_year.first_year), month_end y c in_year.first_year first))
    (λ ge.
    let same : c ≡ 12 = omega (arith, p.within) in
    rw same (omega (arith, in_year.ends, month_end y 12 in_year.first_year (omega arith), days_of_months_all (pos y))))

month_there : (day y c : ℕ) → IsYearOf day y → IsPlace (month_begun day y) 1 12 c → IsMonthOf day y c
month_there day y zero in_year p =
    absurd (omega (arith, in_year.begun, leb-false (day_number y 1 1) day (p.fails (omega arith))))
month_there day y (suc k) in_year p =
    let same : 1 + k ≡ suc k = omega arith in
    record {
      first_month = omega arith;
      last_month = p.within;
      begun = rw same at (leb-true (day_number y (1 + k) 1) day (p.passes k (omega arith)));
      ends = month_over day y (suc k) in_year (omega arith) p;
    }

month_is : (day : ℕ) → day ≤ 2932896 → IsMonthOf day (year_of day) (month_of day)
unfolding month_of
month_is day last =
    let in_year = year_is day last in
    month_there day (year_of day) (how_many (month_begun day (year_of day)) 1 12) in_year
    (place_is (month_begun day (year_of day)) 1 12 (months_fail day (year_of day) in_year.first_year))

-- the calendar has the day, and it has that number
date_there : (day y m d : ℕ) → IsYearOf day y → IsMonthOf day y m → d ≡ day - day_number y m 1 + 1 → is_date y m d ≡ true
date_there day y m d in_year in_month e =
    and_from _ _ (and_from _ _ (and_from _ _ (and_from _ _ (and_from _ _ (le-leb 1970 y in_year.first_year) (le-leb y 9999 in_year.last_year))
    (le-leb 1 m in_month.first_month)) (le-leb m 12 in_month.last_month)) (le-leb 1 d (omega arith))) (le-leb d (days_in_month (pos y) m) (omega (arith, in_month.begun, in_month.ends)))

number_there : (day y m d : ℕ) → IsYearOf day y → IsMonthOf day y m → d ≡ day - day_number y m 1 + 1 → day_number y m d ≡ day
number_there day y m d in_year in_month e =
    omega (arith, in_month.begun, number_count y m 1 in_year.first_year (omega arith), number_count y m d in_year.first_year (omega arith), day_count-day (pos y) m d 1 (omega arith) (omega arith))

day_is : (day : ℕ) → day_of_month day ≡ day - day_number (year_of day) (month_of day) 1 + 1
unfolding day_of_month
day_is day = refl

pub date_is : (day : ℕ) → day ≤ 2932896 → is_date (year_of day) (month_of day) (day_of_month day) ≡ true
date_is day last = date_there day (year_of day) (month_of day) (day_of_month day) (year_is day last) (month_is day last) (day_is day)

pub date_number : (day : ℕ) → day ≤ 2932896 → day_number (year_of day) (month_of day) (day_of_month day) ≡ day
date_number day last = number_there day (year_of day) (month_of day) (day_of_month day) (year_is day last) (month_is day last) (day_is day)

day_bound : (day : ℕ) → day ≤ 2932896 → day_of_month day ≤ 31
day_bound day last =
    let in_month = month_is day last in
    omega (arith, day_is day, in_month.begun, in_month.ends, (days_in_month_bounds (pos (year_of day)) (month_of day)).0)

-- each part of the date is a number of two digits, or of four
pub date_bounds : (day : ℕ) → day ≤ 2932896 → (year_of day ≤ 9999) × (month_of day ≤ 12) × (day_of_month day ≤ 31)
date_bounds day last = ((year_is day last).last_year, (month_is day last).last_month, day_bound day last)
