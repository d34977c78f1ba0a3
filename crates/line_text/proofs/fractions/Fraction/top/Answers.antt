-- The parts of a fraction have no divisor but 1.
use Rattle.line_text.proofs.fractions.Fraction.top.Goals as goal

pub returns-clause-lowest : goal.returns-clause-lowest
returns-clause-lowest c = rw (← c.self.view_is) c.self.invariant.lowest
