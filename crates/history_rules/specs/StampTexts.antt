-- The text of a second: year, month, day and time of day.
use Rattle.std.specs.Prelude.{◌≡◌, ◌≤◌, ℕ, Bool, ◌+◌, ◌-◌, ◌/◌, ◌%◌, nat_le, List, [], ◌∷◌, ◌++◌, length, filter, Some}
use Rattle.std.specs.List.{range_with_len}
use Rattle.event_rules.specs.Stamps.{day_number, stamp_of}

-- how many of so many numbers, from the first on, pass a test
unfoldable pub how_many : (ℕ → Bool) → ℕ → ℕ → ℕ
how_many test first count = length (filter test (range_with_len first count))

-- the year of a day since 1970-01-01: 1970, and one more for each later year that has begun
unfoldable pub year_of : ℕ → ℕ
year_of day = 1970 + how_many (λ y. nat_le (day_number y 1 1) day) 1971 8029

-- the months of that year that have begun
unfoldable pub month_of : ℕ → ℕ
month_of day = how_many (λ m. nat_le (day_number (year_of day) m 1) day) 1 12

-- and the days of that month
unfoldable pub day_of_month : ℕ → ℕ
day_of_month day = day - day_number (year_of day) (month_of day) 1 + 1

-- the digits of a number below 100
abbrev pub two_digits : ℕ → List ℕ
two_digits n = (48 + n / 10) ∷ (48 + n % 10) ∷ []

-- YYYY-MM-DD
abbrev pub date_text : ℕ → List ℕ
date_text day = two_digits (year_of day / 100) ++ two_digits (year_of day % 100) ++ 45 ∷ two_digits (month_of day) ++ 45 ∷ two_digits (day_of_month day)

-- HH:MM:SS
abbrev pub clock_text : ℕ → List ℕ
clock_text second = two_digits (second / 3600) ++ 58 ∷ two_digits (second / 60 % 60) ++ 58 ∷ two_digits (second % 60)

-- YYYY-MM-DDTHH:MM:SSZ
unfoldable pub stamp_text : ℕ → List ℕ
stamp_text at = date_text (at / 86400) ++ 84 ∷ clock_text (at % 86400) ++ 90 ∷ []

-- the last second of the year 9999
abbrev pub last_second : ℕ
last_second = 253402300799

-- the text of a second names it
abbrev pub StampTextIsRead : Type 0
StampTextIsRead = (at : ℕ) → at ≤ last_second → stamp_of (stamp_text at) ≡ Some at
