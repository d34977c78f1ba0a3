-- A number is read as it was printed.
use Rattle.line_text.proofs.DecimalTexts.{decimal_within-decimal}
use Rattle.line_text.proofs.laws.decimal_is_read.Goals as goal

pub returns : goal.returns
returns c = decimal_within-decimal
