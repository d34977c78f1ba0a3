-- A text is cut at its first LF, or it is one line.
use Rattle.line_text.proofs.CutLines.{lines_from-part}
use Rattle.line_text.proofs.laws.lines_from_parts.Goals as goal

pub returns : goal.returns
returns c = lines_from-part
