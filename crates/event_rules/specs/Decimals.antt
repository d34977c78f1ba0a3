-- Numbers in decimals, each in its one spelling.
use Rattle.std.specs.Prelude.{ℕ, ◌+◌, ◌*◌, ◌-◌, Bool, ◌==◌, ◌&&◌, ◌||◌, not, nat_le, List, length, fold, Option, Some, None, if◌then◌else◌}
use Rattle.std.specs.List.{list_all}
use Rattle.event_rules.specs.Lines.{is_empty, begins_with}

abbrev pub is_digit : ℕ → Bool
is_digit b = nat_le 48 b && nat_le b 57

-- ASCII digits without a needless leading zero
abbrev pub is_decimal : List ℕ → Bool
is_decimal text = not (is_empty text) && (list_all is_digit text && ((length text == 1) || not (begins_with 48 text)))

-- the number that digits write
abbrev pub value_of : List ℕ → ℕ
value_of text = fold (λ value b. 10 * value + (b - 48)) 0 text

-- the number of a decimal that lies between these bounds
abbrev pub decimal_within : ℕ → ℕ → List ℕ → Option ℕ
decimal_within least most text =
    if is_decimal text && (nat_le least (value_of text) && nat_le (value_of text) most) then Some (value_of text) else None
