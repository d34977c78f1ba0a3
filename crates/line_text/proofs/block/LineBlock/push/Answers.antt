-- One more line, by its sort.
use Rattle.line_text.proofs.LinesKept.{holds_with}
use Rattle.line_text.proofs.block.LineBlock.push.Goals as goal

pub returns : goal.returns
returns c = λ held h.
    holds_with _ c.args.self.now _ c.of-sort.result held c.args.line.now c.self.view_is c.of-sort.ensures c.in_ok-push.ensures.items c.in_ok-keep.ensures h
