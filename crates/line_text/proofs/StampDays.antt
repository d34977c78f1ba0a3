-- The days that exist from 1970 on, and their numbers.
use Rattle.std.proofs.Common.{◌≡◌, ◌↔◌, ◌&&◌, ℕ, ◌≤◌, true, Option, None, Some, IsSome, IfSome, nat_le, ℤ, pos, ◌≤ℤ◌, unsigned_abs, refl, sym, ◌∙◌, ap, subst, inl, inr, arith, if◌then◌else◌}
use Rattle.std.proofs.lemmas.Bool.{and_from, and_parts, leb-true, le-leb, cases_Bool}
use Rattle.std.proofs.lemmas.Int.{by_lt_z}
use Rattle.jiff_core.specs.Calendar.{days_in_month, days_from_civil, day_count, IsCivilDate}
use Rattle.jiff_core.specs.declared.civil.date.Date.{Date}
use Rattle.jiff_core.specs.Date.{epoch_day}
use Rattle.jiff_core.proofs.DateLemmas.{civil as date_parts, epoch_day_injective}
use Rattle.jiff_core.proofs.SignedLemmas.{signed_arith, one_part}
use Rattle.jiff_core.proofs.CalendarLemmas.{day_count-epoch, days_from_civil-day_count, day_count-lt_year, day_count-later_year, day_count-day_of_year, day_count_bounds}
use Rattle.event_rules.specs.Stamps.{is_date, day_number}
use Rattle.line_text.specs.Dates.{Exists}

pub date_exists : (y m d : ℕ) → Exists y m d → is_date y m d ≡ true
date_exists y m d e =
    and_from _ _ (and_from _ _ (and_from _ _ (and_from _ _ (and_from _ _ (le-leb 1970 y e.first_year) (le-leb y 9999 e.last_year))
    (le-leb 1 m e.first_month)) (le-leb m 12 e.last_month)) (le-leb 1 d e.first_day)) (le-leb d (days_in_month (pos y) m) e.last_day)

pub exists_from : (y m d : ℕ) → is_date y m d ≡ true → Exists y m d
exists_from y m d t =
    let p5 = and_parts (nat_le 1970 y && nat_le y 9999 && nat_le 1 m && nat_le m 12 && nat_le 1 d) (nat_le d (days_in_month (pos y) m)) t in
    let p4 = and_parts (nat_le 1970 y && nat_le y 9999 && nat_le 1 m && nat_le m 12) (nat_le 1 d) p5.0 in
    let p3 = and_parts (nat_le 1970 y && nat_le y 9999 && nat_le 1 m) (nat_le m 12) p4.0 in
    let p2 = and_parts (nat_le 1970 y && nat_le y 9999) (nat_le 1 m) p3.0 in
    let p1 = and_parts (nat_le 1970 y) (nat_le y 9999) p2.0 in
    record {
      first_year = leb-true _ _ p1.0;
      last_year = leb-true _ _ p1.1;
      first_month = leb-true _ _ p2.1;
      last_month = leb-true _ _ p3.1;
      first_day = leb-true _ _ p4.1;
      last_day = leb-true _ _ p5.1;
    }

-- an answer that comes exactly where the day exists, with its number
pub day_answer : (r : Option ℕ) (y m d : ℕ) → (IsSome r ↔ Exists y m d) → IfSome r (λ n. n ≡ day_number y m d) → r ≡ (if is_date y m d then Some (day_number y m d) else None)
day_answer None y m d iff value = elim (cases_Bool (is_date y m d)) [
  | inl t ↦ let bad = iff.1 (exists_from y m d t) in cc
  | inr f ↦ rw f refl
]
day_answer (Some n) y m d iff value = rw (date_exists y m d (iff.0 refl)) (ap (λ k. Some k) value)

-- a year from 1970 on begins with or behind 1970-01-01
year_start : (y : ℤ) → pos 1970 ≤ℤ y → 4_371_953 ≤ day_count y 1 1
year_start y late =
    by_lt_z (pos 1970) y
    (λ lt. omega (arith, day_count-later_year (pos 1970) y (omega (arith, signed_arith)) lt, day_count-epoch))
    (λ le. let e : y ≡ pos 1970 = omega (arith, signed_arith) in rw e (omega (arith, day_count-epoch)))

-- so its days have numbers that are not negative
pub not_before_1970 : (y : ℤ) (m d : ℕ) → pos 1970 ≤ℤ y → 1 ≤ d → pos 0 ≤ℤ days_from_civil y m d
not_before_1970 y m d late first =
    omega (arith, signed_arith, days_from_civil-day_count y m d, day_count-day_of_year y m d first, year_start y late)

-- and a day whose number is not negative lies in such a year
pub from_1970 : (y : ℤ) (m d : ℕ) → IsCivilDate y m d → pos 0 ≤ℤ days_from_civil y m d → pos 1970 ≤ℤ y
from_1970 y m d civil late =
    by_lt_z y (pos 1970)
    (λ lt. absurd (omega (arith, signed_arith, days_from_civil-day_count y m d, day_count-lt_year y m d (pos 1970) 1 1 civil (omega arith) lt, day_count-epoch)))
    (λ le. le)

civil_from : (y m d : ℕ) → Exists y m d → IsCivilDate (pos y) m d
civil_from y m d e =
    let last : y ≤ 9999 = e.last_year in
    ((omega (arith, signed_arith), omega (arith, signed_arith)), (e.first_month, e.last_month), (e.first_day, e.last_day))

-- the last of these days is 9999-12-31
pub number_bound : (y m d : ℕ) → Exists y m d → day_number y m d ≤ 2932896
number_bound y m d e =
    let first : 1970 ≤ y = e.first_year in
    let late = not_before_1970 (pos y) m d (omega (arith, signed_arith)) e.first_day in
    omega (arith, signed_arith, one_part (days_from_civil (pos y) m d), late, days_from_civil-day_count (pos y) m d, day_count_bounds (pos y) m d (civil_from y m d e))

abs_back : (y : ℤ) → pos 0 ≤ℤ y → pos (unsigned_abs y) ≡ y
abs_back y late = omega (arith, signed_arith, one_part y)

-- a date from 1970 on is one of the days that exist
pub date_from_1970 : (date : Date) → pos 1970 ≤ℤ date.year → Exists (unsigned_abs date.year) date.month date.day
date_from_1970 date late =
    let back = abs_back date.year (omega (arith, signed_arith)) in
    let P : ℤ → Type 0 = λ year. date.day ≤ days_in_month year date.month in
    record {
      first_year = omega (arith, signed_arith, one_part date.year);
      last_year = omega (arith, signed_arith, one_part date.year, (date_parts date).0);
      first_month = (date_parts date).1.0;
      last_month = (date_parts date).1.1;
      first_day = (date_parts date).2.0;
      last_day = subst P (sym back) (date_parts date).2.1;
    }

pub date_number : (date : Date) (n : ℕ) → pos 1970 ≤ℤ date.year → epoch_day date ≡ pos n → day_number (unsigned_abs date.year) date.month date.day ≡ n
date_number date n late e =
    let back = abs_back date.year (omega (arith, signed_arith)) in
    ap (λ year. unsigned_abs (days_from_civil year date.month date.day)) back ∙ ap unsigned_abs e

abbrev date_with : (y m d : ℕ) → Exists y m d → Date
date_with y m d e =
    record { year = pos y; month = m; day = d; year_in = (civil_from y m d e).0; month_in = (civil_from y m d e).1; day_in = (civil_from y m d e).2 }

day_back : (y m d : ℕ) → Exists y m d → pos (day_number y m d) ≡ days_from_civil (pos y) m d
day_back y m d e =
    let first : 1970 ≤ y = e.first_year in
    abs_back (days_from_civil (pos y) m d) (not_before_1970 (pos y) m d (omega (arith, signed_arith)) e.first_day)

-- two days with one number are the same
pub same_date : (y m d y₂ m₂ d₂ : ℕ) → Exists y m d → Exists y₂ m₂ d₂ → day_number y m d ≡ day_number y₂ m₂ d₂ → (y ≡ y₂) × (m ≡ m₂) × (d ≡ d₂)
same_date y m d y₂ m₂ d₂ e e₂ same =
    let days = sym (day_back y m d e) ∙ ap (λ n. pos n) same ∙ day_back y₂ m₂ d₂ e₂ in
    let parts = epoch_day_injective (date_with y m d e) (date_with y₂ m₂ d₂ e₂) days in
    (omega (arith, signed_arith, parts.0), parts.1, parts.2)
