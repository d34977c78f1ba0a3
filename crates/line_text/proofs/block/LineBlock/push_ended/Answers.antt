-- Each line that ends at an LF was added, and what is left has none.
use Rattle.std.proofs.Common.{refl}
use Rattle.line_text.proofs.PieceLines.{added_line, added_all, rest_is_part}
use Rattle.line_text.proofs.block.LineBlock.push_ended.Goals as goal

pub lines-preserved : goal.lines-preserved
lines-preserved c =
    added_line c.args.self.now c.lines.self c.push.new.self c.args.text.now c.lines.rest.now c.in-Some.line.now c.in-Some.behind.now c.strip_cr.result.now
    c.lines.invariant c.in-Some.ensures.whole c.in-Some.ensures.first c.strip_cr.ensures c.in_ok-push.ensures

pub returns-clause-held : goal.returns-clause-held
returns-clause-held c = added_all c.args.self.now c.lines.self c.args.text.now c.lines.rest.now c.lines.invariant (c.in_default.ensures.none.0 refl)

pub returns-clause-part : goal.returns-clause-part
returns-clause-part c = rest_is_part c.args.self.now c.lines.self c.args.text.now c.lines.rest.now c.lines.invariant (c.in_default.ensures.none.0 refl)
