-- Fractions in lowest terms, and their text.
use Rattle.std.specs.Prelude.{◌≡◌, ◌<◌, ℕ, zero, suc, ◌+◌, ◌*◌, ◌/◌, ◌%◌, ◌==◌, ◌&&◌, Bool, List, [], ◌∷◌, ◌++◌, if◌then◌else◌, Option, Some, None, decimal}
use Rattle.std.specs.List.{join_with_byte}
use Rattle.std.specs.Int.{IsGcd}

-- a number over another
pub record Ratio : Type 0 where
  pub top : ℕ
  pub under : ℕ

abbrev pub divides : ℕ → ℕ → Bool
divides d n = n % d == 0

-- the greatest of the numbers up to a bound that divide both; 1 divides all
unfoldable pub divisor_upto : ℕ → ℕ → ℕ → ℕ
divisor_upto zero a b = 1
divisor_upto (suc most) a b = if divides (suc most) a && divides (suc most) b then suc most else divisor_upto most a b

-- the same number in lowest terms: both parts divided by their greatest common divisor; 0 is 0/1
abbrev pub lowest : ℕ → ℕ → Ratio
lowest top under = record { top = top / divisor_upto under top under; under = under / divisor_upto under top under }

-- a quotient in lowest terms; over 0 it has no value
abbrev pub quotient : ℕ → ℕ → Option Ratio
quotient top zero = None
quotient top (suc under) = Some (lowest top (suc under))

-- the last four digits of a number
abbrev pub four_digits : ℕ → List ℕ
four_digits n = (48 + n / 1000 % 10) ∷ (48 + n / 100 % 10) ∷ (48 + n / 10 % 10) ∷ (48 + n % 10) ∷ []

-- TOP/UNDER and WHOLE.DDDD: the value is cut to four decimals, not rounded
abbrev pub ratio_words : Ratio → List (List ℕ)
ratio_words r =
    (decimal r.top ++ 47 ∷ decimal r.under)
    ∷ (decimal (r.top / r.under) ++ 46 ∷ four_digits (r.top % r.under * 10000 / r.under)) ∷ []

-- both with a comma between them
unfoldable pub ratio_text : Ratio → List ℕ
ratio_text r = join_with_byte 44 (ratio_words r)

-- the fraction is this quotient, and no number but 1 divides both of its parts
pub record IsLowestOf (top under : ℕ) (r : Ratio) : Type 0 where
  pub same : r.top * under ≡ top * r.under
  pub apart : IsGcd r.top r.under 1

-- so it is of what is called lowest
abbrev pub FractionsAreLowest : Type 0
FractionsAreLowest = (top under : ℕ) → 0 < under → IsLowestOf top under (lowest top under)
