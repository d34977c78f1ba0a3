-- The divisor is the greatest common one.
use Rattle.line_text.proofs.Divisors.{gcd_some, lowest-over, over-apart, quotient_some, quotient-le}
use Rattle.line_text.proofs.fractions.Fraction.new.Goals as goal

pub nonzero_div-result : goal.nonzero_div-result
nonzero_div-result c = gcd_some c.args.top c.args.under c.common_divisor-divisor.result c.requires.not_zero c.common_divisor-divisor.ensures

pub nonzero_div-result-2 : goal.nonzero_div-result-2
nonzero_div-result-2 c = gcd_some c.args.top c.args.under c.common_divisor-divisor.result c.requires.not_zero c.common_divisor-divisor.ensures

pub invariant_of-result : goal.invariant_of-result
invariant_of-result c =
    let some = gcd_some c.args.top c.args.under c.common_divisor-divisor.result c.requires.not_zero c.common_divisor-divisor.ensures in
    record {
      not_zero = quotient_some c.args.under c.common_divisor-divisor.result c.requires.not_zero some c.common_divisor-divisor.ensures.1;
      small = quotient-le c.args.under c.common_divisor-divisor.result _ c.requires.range;
      lowest = over-apart c.args.top c.args.under c.common_divisor-divisor.result c.requires.not_zero c.common_divisor-divisor.ensures;
    }

pub returns : goal.returns
returns c = lowest-over c.args.top c.args.under c.common_divisor-divisor.result c.requires.not_zero c.common_divisor-divisor.ensures
