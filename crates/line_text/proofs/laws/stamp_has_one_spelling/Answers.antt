-- A second has one date and one time of day, and each has one text.
use Rattle.line_text.proofs.StampSpelling.{one_spelling}
use Rattle.line_text.proofs.laws.stamp_has_one_spelling.Goals as goal

pub returns : goal.returns
returns c = one_spelling
