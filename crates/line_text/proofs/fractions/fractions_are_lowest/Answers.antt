-- Both parts over their greatest common divisor.
use Rattle.line_text.proofs.Divisors.{lowest-is}
use Rattle.line_text.proofs.fractions.fractions_are_lowest.Goals as goal

pub returns : goal.returns
returns c = lowest-is
