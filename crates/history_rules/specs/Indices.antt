-- The reliability indices of a period, over the lines of the ledger: a profile after IEEE Std 1366-2012.
use Rattle.std.specs.Prelude.{◌≡◌, ◌≤◌, ℕ, ◌+◌, ◌-◌, ◌*◌, Bool, true, ◌&&◌, nat_lt, nat_le, List, Option, Some, None, filter, sum_by}
use Rattle.grid_model.specs.Parts.{Parts}
use Rattle.grid_model.specs.Places.{customers_served}
use Rattle.grid_model.specs.declared.history.Line.{Line}
use Rattle.grid_model.specs.declared.history.Period.{Period}
use Rattle.grid_model.specs.declared.history.Stamp.{Stamp}
use Rattle.event_rules.specs.Fractions.{Ratio, quotient}
use Rattle.history_rules.specs.Outages.{customers_of}

abbrev pub is_before : Stamp → Option Stamp → Bool
is_before t None = true
is_before t (Some until) = nat_lt t.0 until.0

-- a line belongs to the period in which it begins; the end of a period isn't part of it
abbrev pub begins_in : Period → Line → Bool
begins_in period l = nat_le period.from.0 l.start.0 && is_before l.start period.until

-- an open line ends now
abbrev pub end_or : ℕ → Option Stamp → ℕ
end_or now None = now
end_or now (Some t) = t.0

abbrev pub seconds_of : ℕ → Line → ℕ
seconds_of now l = end_or now l.end - l.start.0

-- longer than five minutes
abbrev pub is_sustained : ℕ → Line → Bool
is_sustained now l = nat_lt 300 (seconds_of now l)

-- the sustained interruptions of a period
unfoldable pub counted_lines : Period → ℕ → List Line → List Line
counted_lines period now lines = filter (λ l. begins_in period l && is_sustained now l) lines

unfoldable pub customers_interrupted : Parts → Period → ℕ → List Line → ℕ
customers_interrupted g period now lines = sum_by (λ l. customers_of g l.meter.0) (counted_lines period now lines)

unfoldable pub customer_seconds : Parts → Period → ℕ → List Line → ℕ
customer_seconds g period now lines = sum_by (λ l. customers_of g l.meter.0 * seconds_of now l) (counted_lines period now lines)

-- customers interrupted by customers served
abbrev pub saifi : Parts → Period → ℕ → List Line → Option Ratio
saifi g period now lines = quotient (customers_interrupted g period now lines) (customers_served g)

-- customer minutes by customers served
abbrev pub saidi : Parts → Period → ℕ → List Line → Option Ratio
saidi g period now lines = quotient (customer_seconds g period now lines) (60 * customers_served g)

-- customer minutes by customers interrupted
abbrev pub caidi : Parts → Period → ℕ → List Line → Option Ratio
caidi g period now lines = quotient (customer_seconds g period now lines) (60 * customers_interrupted g period now lines)

-- the period of all seconds
abbrev pub whole_period : Period
whole_period = record { from = record { 0 = 0 }; until = None }

abbrev pub period_between : ℕ → Option Stamp → Period
period_between from until = record { from = record { 0 = from }; until = until }

-- what a split period counts is what its two parts count
pub record PeriodAddsUp (g : Parts) (from middle : ℕ) (until : Option Stamp) (now : ℕ) (lines : List Line) : Type 0 where
  pub interrupted : customers_interrupted g (period_between from until) now lines
      ≡ customers_interrupted g (period_between from (Some (record { 0 = middle }))) now lines + customers_interrupted g (period_between middle until) now lines
  pub seconds : customer_seconds g (period_between from until) now lines
      ≡ customer_seconds g (period_between from (Some (record { 0 = middle }))) now lines + customer_seconds g (period_between middle until) now lines

abbrev pub IsAtMost : ℕ → Option Stamp → Type 0
IsAtMost t None = Unit {0}
IsAtMost t (Some until) = t ≤ until.0

abbrev pub PeriodsAddUp : Type 0
PeriodsAddUp = (g : Parts) (from middle : ℕ) (until : Option Stamp) (now : ℕ) (lines : List Line) → from ≤ middle → IsAtMost middle until →
    PeriodAddsUp g from middle until now lines
