-- A digit after the other, each number is printed as it is written.
use Rattle.line_text.proofs.DecimalTexts.{decimal_within-spelled}
use Rattle.line_text.proofs.laws.decimal_has_one_spelling.Goals as goal

pub returns : goal.returns
returns c = decimal_within-spelled
