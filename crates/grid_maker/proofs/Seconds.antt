-- The second of the first line, as a number.
use Rattle.std.proofs.Common.{◌≡◌, ℕ, ◌+◌, ◌*◌, refl, ap}
use Rattle.jiff_core.specs.Calendar.{days_of_years, days_of_months, day_count, days_from_civil}
use Rattle.grid_maker.specs.EventText.{first_second, second_of}

first_second_is : first_second ≡ 1_704_067_200
unfolding first_second days_from_civil day_count days_of_years days_of_months
first_second_is = refl

pub second_is : (i : ℕ) → second_of i ≡ 1_704_067_200 + 7 * i
unfolding second_of
second_is i = ap (λ s. s + 7 * i) first_second_is
