-- The days that exist.
use Rattle.std.specs.Prelude.{◌≤◌, ℕ, pos}
use Rattle.jiff_core.specs.Calendar.{days_in_month}

-- the calendar has this day, in a year from 1970 to 9999
pub record Exists (year month day : ℕ) : Type 0 where
  pub first_year : 1970 ≤ year
  pub last_year : year ≤ 9999
  pub first_month : 1 ≤ month
  pub last_month : month ≤ 12
  pub first_day : 1 ≤ day
  pub last_day : day ≤ days_in_month (pos year) month
