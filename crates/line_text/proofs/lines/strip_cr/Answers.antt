-- The last byte of the line, by what the pattern read.
use Rattle.std.proofs.Common.{rules, arith}
use Rattle.line_text.proofs.LineParts.{without_cr-cr, without_cr-other}
use Rattle.line_text.proofs.lines.strip_cr.Goals as goal

pub returns-in-13 : goal.returns-in-13
returns-in-13 c = without_cr-cr c.args.line.now (omega arith) (search rules)

pub returns-in_default-2 : goal.returns-in_default-2
returns-in_default-2 c = without_cr-other c.args.line.now (omega arith) (search rules)
