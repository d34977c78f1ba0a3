use Rattle.line_text.proofs.LinesKept.{holds_none}
use Rattle.line_text.proofs.block.LineBlock.new.Goals as goal

pub returns : goal.returns
returns c = holds_none _ c.new.ensures.items c.new-2.ensures.items
