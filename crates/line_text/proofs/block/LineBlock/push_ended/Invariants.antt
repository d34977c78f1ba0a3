use Rattle.std.proofs.Common.{length}
use Rattle.line_text.proofs.PieceLines.{HasAdded}
use Rattle.line_text.proofs.block.LineBlock.push_ended.Given as goal

abbrev pub invariant-lines : goal.invariant-lines
invariant-lines l = HasAdded l.fn.self l.self l.text l.rest

abbrev pub decreases-lines : goal.decreases-lines
decreases-lines l = length l.rest
