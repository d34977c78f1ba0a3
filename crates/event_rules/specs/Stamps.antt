-- The text of a time, `YYYY-MM-DDTHH:MM:SSZ`, and the second that it names.
use Rattle.std.specs.Prelude.{ℕ, Bool, true, false, ◌==◌, ◌&&◌, ◌+◌, ◌-◌, ◌*◌, nat_le, List, [], ◌∷◌, slice_index, Option, Some, None, if◌then◌else◌, codes, pos, unsigned_abs}
use Rattle.jiff_core.specs.Calendar.{days_in_month, days_from_civil}
use Rattle.event_rules.specs.Decimals.{is_digit}

-- a digit where the pattern has a 0, and the pattern's own byte elsewhere
abbrev pub fits_pattern : List ℕ → List ℕ → Bool
fits_pattern [] [] = true
fits_pattern [] (b ∷ text) = false
fits_pattern (p ∷ pattern) [] = false
fits_pattern (p ∷ pattern) (b ∷ text) = (if p == 48 then is_digit b else b == p) && fits_pattern pattern text

abbrev pub stamp_pattern : List ℕ
stamp_pattern = codes "0000-00-00T00:00:00Z"

-- the shape of a date and a time of day in UTC
abbrev pub has_stamp_shape : List ℕ → Bool
has_stamp_shape text = fits_pattern stamp_pattern text

-- the number that two digits write, the first of them at this place
abbrev pub two_at : List ℕ → ℕ → ℕ
two_at text place = (slice_index text place - 48) * 10 + (slice_index text (place + 1) - 48)

-- the number of the first four digits
abbrev pub year_in : List ℕ → ℕ
year_in text = two_at text 0 * 100 + two_at text 2

-- the calendar has this day, in a year from 1970 to 9999
abbrev pub is_date : ℕ → ℕ → ℕ → Bool
is_date year month day =
    nat_le 1970 year && nat_le year 9999 && nat_le 1 month && nat_le month 12 && nat_le 1 day
    && nat_le day (days_in_month (pos year) month)

-- a clock shows this time of day
abbrev pub is_time : ℕ → ℕ → ℕ → Bool
is_time hour minute second = nat_le hour 23 && nat_le minute 59 && nat_le second 59

-- days since 1970-01-01
abbrev pub day_number : ℕ → ℕ → ℕ → ℕ
day_number year month day = unsigned_abs (days_from_civil (pos year) month day)

-- seconds since midnight
abbrev pub second_of_day : ℕ → ℕ → ℕ → ℕ
second_of_day hour minute second = hour * 3600 + minute * 60 + second

-- seconds since 1970-01-01T00:00:00Z, where that day and that time of day exist
unfoldable pub second_since_1970 : ℕ → ℕ → ℕ → ℕ → ℕ → ℕ → Option ℕ
second_since_1970 year month day hour minute second =
    if is_date year month day && is_time hour minute second
    then Some (day_number year month day * 86400 + second_of_day hour minute second) else None

-- the second that a text names
unfoldable pub stamp_of : List ℕ → Option ℕ
stamp_of text =
    if has_stamp_shape text
    then second_since_1970 (year_in text) (two_at text 5) (two_at text 8) (two_at text 11) (two_at text 14) (two_at text 17)
    else None
