use Rattle.line_text.proofs.LinesKept.{holds_none}
use Rattle.line_text.proofs.block.LineBlock.clear.Goals as goal

pub returns : goal.returns
returns c = holds_none _ c.clear.ensures.items c.clear-2.ensures.items
