-- The text of a date and a time of day.
use Rattle.std.specs.Prelude.{ℕ, Bool, ◌==◌, ◌+◌, ◌/◌, ◌%◌, List, [], ◌∷◌, if◌then◌else◌}
use Rattle.event_rules.specs.Decimals.{is_digit}

-- a digit where the mark is a 0, and the mark itself elsewhere
abbrev pub fits_mark : ℕ → ℕ → Bool
fits_mark mark byte = if mark == 48 then is_digit byte else byte == mark

-- the digits of a number below 100
abbrev pub tens : ℕ → ℕ
tens n = 48 + n / 10

abbrev pub ones : ℕ → ℕ
ones n = 48 + n % 10

-- the text of a year of this century, and so on
unfoldable pub stamp_text : ℕ → ℕ → ℕ → ℕ → ℕ → ℕ → ℕ → List ℕ
stamp_text century year month day hour minute second =
    tens century ∷ ones century ∷ tens year ∷ ones year ∷ 45 ∷ tens month ∷ ones month ∷ 45 ∷ tens day ∷ ones day
    ∷ 84 ∷ tens hour ∷ ones hour ∷ 58 ∷ tens minute ∷ ones minute ∷ 58 ∷ tens second ∷ ones second ∷ 90 ∷ []
