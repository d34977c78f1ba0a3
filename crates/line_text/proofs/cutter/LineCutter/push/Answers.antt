-- The line before an LF.
use Rattle.line_text.proofs.CutLines.{tells_line, answer-told}
use Rattle.line_text.specs.Cutting.{line_ended}
use Rattle.line_text.proofs.cutter.LineCutter.push.Goals as goal

pub returns-then-byte-eq10-clause-line : goal.returns-then-byte-eq10-clause-line
returns-then-byte-eq10-clause-line c = λ part at.
    let length = c.line_length.ensures in
    let cut = c.cut.ensures in
    rw c.if-byte-eq10.true
    (tells_line c.args.self.now.part part c.cut.new.self.line c.line_length.result c.cut.result at length.held length.longer cut.answer cut.line)

pub returns-then-byte-eq10-clause-answer : goal.returns-then-byte-eq10-clause-answer
returns-then-byte-eq10-clause-answer c = λ part at.
    answer-told c.cut.result c.cut.new.self.line (line_ended part c.args.byte) (returns-then-byte-eq10-clause-line c part at)
