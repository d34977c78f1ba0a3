-- What a contract sees of a fraction.
use Rattle.std.specs.Prelude.{◌<◌, ◌≤◌, ◌^◌}
use Rattle.std.specs.Int.{IsGcd}
use Rattle.event_rules.specs.Fractions.{Ratio}
use Rattle.line_text.specs.declared.fractions.Fraction.TheInside.{Inside}

abbrev pub ratio_in : Inside → Ratio
ratio_in f = record { top = f.top; under = f.under }

-- the number below the line is there, and leaves room for four more decimals; no number but 1 divides both
pub record IsFractionInside (f : Inside) : Type 0 where
  pub not_zero : 0 < f.under
  pub small : f.under ≤ 10 ^ 30
  pub lowest : IsGcd f.top f.under 1
