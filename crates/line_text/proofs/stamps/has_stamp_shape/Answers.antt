-- A text of the pattern's length fits it where each byte does.
use Rattle.std.proofs.Common.{rules, ◌∙◌}
use Rattle.event_rules.specs.Stamps.{stamp_pattern}
use Rattle.line_text.proofs.StampShapes.{list_all-fits}
use Rattle.line_text.proofs.stamps.has_stamp_shape.Goals as goal

pub returns-then-text-eq20 : goal.returns-then-text-eq20
returns-then-text-eq20 c = c.all_fit.ensures ∙ list_all-fits stamp_pattern c.args.text.now (search rules)
